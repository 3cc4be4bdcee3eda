-- One time, and then the other.
use Rattle.steps.specs.Todo.{left}
use Rattle.steps.proofs.Opening.{no_times, one_time, two_times}
use Rattle.steps.proofs.todo.open_times.Goals as goal

pub returns-in_err-between : goal.returns-in_err-between
returns-in_err-between c = λ k. rw c.from_residual.ensures (no_times _ _ k (c.in_err-between.ensures k))

pub returns-in_err-next : goal.returns-in_err-next
returns-in_err-next c = λ k. rw c.from_residual-in_err-next.ensures (one_time _ _ k (c.in_ok-between.ensures k) (c.in_err-next.ensures k))

pub returns : goal.returns
unfolding left
returns c = λ k. two_times _ _ k (c.in_ok-between.ensures k) (c.in_ok-next.ensures k)
