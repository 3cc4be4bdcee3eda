-- The bytes are those of the goal, with the three names of the request in two bytes each.
use Rattle.judging.proofs.Goals.{goal_of_request}
use Rattle.verifier.proofs.verify.goal_of.Goals as goal

pub returns : goal.returns
returns c = goal_of_request _
