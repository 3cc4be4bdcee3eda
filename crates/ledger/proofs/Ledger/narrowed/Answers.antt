-- By cases of the decision.
use Rattle.ledger.specs.Asking.{narrowed_by}
use Rattle.ledger.proofs.Ledger.narrowed.Goals as goal

pub returns-in-Holds : goal.returns-in-Holds
unfolding narrowed_by
returns-in-Holds c = rw c.in-Holds.is

pub returns-in-Fails : goal.returns-in-Fails
unfolding narrowed_by
returns-in-Fails c = rw (c.stopped.ensures, c.in-Fails.is)

pub returns-in-RaisesFrom : goal.returns-in-RaisesFrom
unfolding narrowed_by
returns-in-RaisesFrom c = rw (c.in-RaisesFrom.is, c.max.ensures)

pub returns-in-LowersTo : goal.returns-in-LowersTo
unfolding narrowed_by
returns-in-LowersTo c = rw (c.in-LowersTo.is, c.min.ensures)
