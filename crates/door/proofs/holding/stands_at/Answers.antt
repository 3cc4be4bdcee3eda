-- The fact that is read there is compared, with the moment put into the wanted one.
use Rattle.door.proofs.NoneBefore.{same_there}
use Rattle.door.proofs.holding.stands_at.Goals as goal

pub returns : goal.returns
returns c f e r = same_there _ _ _ _ _ _ c.same_at.result c.same_at.ensures c.in-Some.ensures.0 f e r
