-- A time goes on from a term, and there is none at a name.
use Rattle.steps.proofs.Opening.{no_term, a_name, a_time}
use Rattle.steps.proofs.time_if_any.Goals as goal

pub returns-in_err-time : goal.returns-in_err-time
returns-in_err-time c = λ k. rw c.from_residual.ensures (no_term _ _ k c.in_err-time.ensures.reads)

pub returns-in-When-default : goal.returns-in-When-default
returns-in-When-default c = λ k. a_time _ _ k c.in_ok-time.ensures.reads c.in-When-default.is-0

pub returns-in-Name-default : goal.returns-in-Name-default
returns-in-Name-default c = λ k. a_name _ _ k c.in_ok-time.ensures.reads c.in-Name-default.is-0
