-- Two digits are read one after the other; where one of them is missing, fewer than two are left.
use native.Mathlib.Omega.{arith}
use Rattle.cases.proofs.Pairs.{no_first, no_second, pair_here}
use Rattle.cases.proofs.hex.pair_at.Goals as goal

pub returns-in_err-high : goal.returns-in_err-high
returns-in_err-high c = rw c.from_residual.ensures (no_first c.args.input.now c.args.at c.in_err-high.ensures)

pub overflow_add-at : goal.overflow_add-at
overflow_add-at c = omega (arith, c.in_ok-high.ensures.3)

pub returns-in_err-low : goal.returns-in_err-low
returns-in_err-low c = rw c.from_residual-in_err-low.ensures (no_second c.args.input.now c.args.at _ c.in_ok-high.ensures c.in_err-low.ensures)

pub overflow_mul-result : goal.overflow_mul-result
overflow_mul-result c = omega (arith, c.in_ok-high.ensures.2)

pub overflow_add-result : goal.overflow_add-result
overflow_add-result c = omega (arith, c.in_ok-high.ensures.2, c.in_ok-low.ensures.2)

pub returns : goal.returns
returns c = pair_here c.args.input.now c.args.at _ c.in_ok-high.ensures _ c.in_ok-low.ensures
