-- Where the step that infers has stopped, so has the whole; else what was inferred is held to the goal.
use Rattle.procap.proofs.Telling.{holds_else, fails_where}
use Rattle.judging.proofs.Coming.{comes_inferred, passes_halted, passes_then}
use Rattle.judging.proofs.judge.checked_by.Goals as goal

pub returns-then-not-goes_on : goal.returns-then-not-goes_on
returns-then-not-goes_on c state b w e list G y means =
    passes_halted state b w _ list (comes_inferred state _ b w e _ list y) _ e (fails_where c.goes_on.result c.if-not-goes_on.true-raw c.goes_on.ensures) _

pub returns : goal.returns
returns c state b w e list G y means =
    passes_then state b w _ list (comes_inferred state _ b w e _ list y) _ e (holds_else c.goes_on.result c.if-not-goes_on.false-raw c.goes_on.ensures) _ list
    (λ sound j so. record { gives = c.within.ensures state list j.0 j.1 j.2 G sound so.0 means; ends = λ _. so.1 })
