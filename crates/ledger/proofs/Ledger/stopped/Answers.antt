-- By cases of the number: only the first answer is kept.
use borrow.Author.Tests.{eq-eqb, ne_eqb}
use Rattle.ledger.specs.Books.{stopped_by}
use Rattle.ledger.proofs.Ledger.stopped.Goals as goal

pub returns-then-self-ne0 : goal.returns-then-self-ne0
unfolding stopped_by
returns-then-self-ne0 c = rw (ne_eqb _ 0 c.if-self-ne0.true)

pub returns : goal.returns
unfolding stopped_by
returns c = rw (eq-eqb _ 0 c.if-self-ne0.false, c.number.ensures, c.place.ensures)
