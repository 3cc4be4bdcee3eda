-- The test of the number tells it.
use Rattle.ledger.proofs.Stopping.{tells_going}
use Rattle.ledger.proofs.Ledger.goes_on.Goals as goal

pub returns : goal.returns
returns c = tells_going c.args.self
