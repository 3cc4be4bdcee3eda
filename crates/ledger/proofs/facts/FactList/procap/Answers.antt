-- The places of the list are those of the procap.
use Rattle.ledger.proofs.Listing.{taken_over}
use Rattle.ledger.proofs.facts.FactList.procap.Goals as goal

pub returns : goal.returns
returns c = rw (← c.self.view_is) (taken_over _ _ c.self.invariant.0 c.self.invariant.1 _ c.args.ledger)
