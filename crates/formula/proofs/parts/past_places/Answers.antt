-- The loop has passed so many of the places, and the others are still to be read.
use Rattle.formula.proofs.PartsRead.{none_passed, one_passed, one_missing, all_passed}
use Rattle.formula.proofs.parts.past_places.Goals as goal

pub loop-init : goal.loop-init
loop-init c = none_passed

pub returns-in_err-next : goal.returns-in_err-next
returns-in_err-next c = rw c.from_residual.ensures (one_missing c.loop.invariant c.loop-test.true c.in_err-next.ensures)

pub loop-preserved : goal.loop-preserved
loop-preserved c = one_passed c.loop.invariant _ c.loop-test.true c.in_ok-next.ensures

pub returns : goal.returns
returns c = all_passed c.loop.invariant c.loop-test.false
