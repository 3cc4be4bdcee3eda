-- The number that is tested is the number of the definition, and the answer is the one with it.
use borrow.Author.Tests.{eq-eqb, ne_eqb}
use Rattle.ledger.specs.Books.{stop_by}
use Rattle.ledger.proofs.Ledger.stop.Goals as goal

pub returns-then-self-eq0 : goal.returns-then-self-eq0
unfolding stop_by
returns-then-self-eq0 c = rw (eq-eqb _ 0 c.if-self-eq0.true)

pub returns : goal.returns
unfolding stop_by
returns c = rw (ne_eqb _ 0 c.if-self-eq0.false, c.of.ensures)
