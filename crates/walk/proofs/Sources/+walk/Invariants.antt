-- The walk over a proof, in one cycle of calls. What falls at each call is what is left of levels and bytes (Falling),
-- and where neither is less, a rank from each function to the one that it calls.
use Prim.Native.Nat.{◌+◌, ◌*◌}
use lib.ListN.{length}
use Rattle.walk.proofs.Falling.{left_over}
use Rattle.walk.proofs.Sources.+walk.Given as goal

abbrev pub decreases-infer : goal.decreases-infer
decreases-infer l = 3 * left_over l.here.left (length l.self.now.proof.now) l.here.at

abbrev pub decreases-infer_by : goal.decreases-infer_by
decreases-infer_by l = 3 * left_over l.here.left (length l.self.now.proof.now) (l.here.at + 1) + 1

abbrev pub decreases-apply : goal.decreases-apply
decreases-apply l = 3 * left_over l.here.left (length l.self.now.proof.now) (l.here.at + 1)

abbrev pub decreases-check : goal.decreases-check
decreases-check l = 3 * left_over l.here.left (length l.self.now.proof.now) l.here.at

abbrev pub decreases-check_by : goal.decreases-check_by
decreases-check_by l = 3 * left_over l.here.left (length l.self.now.proof.now) (l.here.at + 1) + 2

abbrev pub decreases-pair : goal.decreases-pair
decreases-pair l = 3 * left_over l.here.left (length l.self.now.proof.now) (l.here.at + 1)

abbrev pub decreases-put_in : goal.decreases-put_in
decreases-put_in l = 3 * left_over l.here.left (length l.self.now.proof.now) (l.here.at + 1)

abbrev pub decreases-take_out : goal.decreases-take_out
decreases-take_out l = 3 * left_over l.here.left (length l.self.now.proof.now) (l.here.at + 1)

abbrev pub decreases-by_cases : goal.decreases-by_cases
decreases-by_cases l = 3 * left_over l.here.left (length l.self.now.proof.now) (l.here.at + 1)

abbrev pub decreases-by_falsity : goal.decreases-by_falsity
decreases-by_falsity l = 3 * left_over l.here.left (length l.self.now.proof.now) (l.here.at + 1)
