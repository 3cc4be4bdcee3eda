-- The loop has copied the numbers passed, so at its end the array is those of the rows.
use Rattle.std.proofs.Common.{refl}
use Rattle.judging.proofs.RowLaws.{none_copied, one_copied, all_copied}
use Rattle.judging.proofs.rows.numbers_in.Goals as goal

pub loop-i-init : goal.loop-i-init
loop-i-init c = none_copied _ _ refl

pub loop-i-preserved : goal.loop-i-preserved
loop-i-preserved c = one_copied _ _ c.loop-i-test.true c.number_in.ensures c.loop-i.invariant

pub returns : goal.returns
returns c = all_copied _ _ c.loop-i-test.false c.loop-i.invariant
