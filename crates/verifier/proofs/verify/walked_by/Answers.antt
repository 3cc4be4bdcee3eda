-- The walk begins with nothing assumed, in rows that are all there, and with the ledger at its start, at the step of the proof
-- that takes all of its bytes.
use mathlib.Core.Path.{refl}
use Rattle.verifier.proofs.WalkBegins.{walk_of_request}
use Rattle.verifier.proofs.verify.walked_by.Goals as goal

pub returns : goal.returns
returns c =
    let check = c.check-checked in
    let scope = c.outermost in
    let goal = c.front_on_ctime in
    walk_of_request _ _ _ _ _ _ check.result check.new.facts c.begin.result goal.result c.begin.ensures goal.ensures
    refl c.goal_of-bytes.ensures (rw scope.ensures at check.ensures.walks)
