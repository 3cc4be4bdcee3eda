-- The first i of the places have the first i values in the row.
use Rattle.std.proofs.Common.{refl}
use Rattle.from_c.proofs.RowLaws.{none_filled, one_filled, all_filled}
use native.Mathlib.Omega.{arith}
use Rattle.from_c.proofs.row.put_in_a_row.Goals as goal

pub loop-i-init : goal.loop-i-init
loop-i-init g c = none_filled refl

pub loop-i-preserved : goal.loop-i-preserved
loop-i-preserved g c = one_filled c.loop-i.invariant _ (omega arith) (rw c.BYTES.ensures at c.at.ensures)

pub returns : goal.returns
returns g c = all_filled c.loop-i.invariant (omega arith)
