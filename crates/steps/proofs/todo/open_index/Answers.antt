-- The byte at the place is the index, and it is held against the limit.
use native.Mathlib.Omega.{arith}
use Rattle.steps.specs.Todo.{left}
use Rattle.steps.proofs.BytesAt.{inside}
use Rattle.steps.proofs.Opening.{no_index, index_below, index_above}
use Rattle.steps.proofs.todo.open_index.Goals as goal

pub returns-in_err-index : goal.returns-in_err-index
returns-in_err-index c = rw c.from_residual.ensures (no_index _ _ _ c.in_err-index.ensures)

pub overflow_add-result : goal.overflow_add-result
overflow_add-result c = omega (arith, inside c.args.proof.now c.args.at c.in_ok-index.ensures)

pub returns-then-from-limit : goal.returns-then-from-limit
unfolding left
returns-then-from-limit c = index_below _ _ _ c.in_ok-index.ensures (omega (arith, c.from.ensures, c.if-from-limit.true))

pub returns-else-from-limit : goal.returns-else-from-limit
returns-else-from-limit c = index_above _ _ _ c.in_ok-index.ensures (omega (arith, c.from.ensures, c.if-from-limit.false))
