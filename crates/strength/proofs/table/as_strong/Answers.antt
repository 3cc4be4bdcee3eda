-- The same principal is as strong as itself. Of two others the marks tell, and where nothing is lent nobody is marked.
use mathlib.Core.Bool.{false}
use Rattle.strength.proofs.Telling.{tells_itself, tells_marked}
use Rattle.strength.proofs.table.as_strong.Goals as goal

pub returns-then-principal-other : goal.returns-then-principal-other
returns-then-principal-other c = tells_itself _ _ _ c.if-principal-other.true

pub returns-in-Some : goal.returns-in-Some
returns-in-Some c = tells_marked _ _ _ c.marked_above.result c.if-principal-other.false (rw c.in-Some.is c.marked_above.ensures)

pub returns-in-None : goal.returns-in-None
returns-in-None c = tells_marked _ _ _ false c.if-principal-other.false (rw c.in-None.is (λ none. none))
