-- Where the step that infers has stopped, so has the whole; else with its tag what was inferred is falsity, and with any other it is not.
use mathlib.Core.Path.{refl}
use Rattle.procap.proofs.Telling.{holds_else, fails_where}
use Rattle.formula.proofs.Shapes.{falsity_shape, not_falsity}
use Rattle.judging.specs.Judging.{takes, unfit}
use Rattle.judging.proofs.Coming.{comes_inferred, passes_halted, passes_then, passes_taken}
use Rattle.judging.proofs.WalkParts.{falsity_there, no_falsity}
use Rattle.judging.proofs.either.from_falsity.Goals as goal

pub returns-then-not-goes_on : goal.returns-then-not-goes_on
returns-then-not-goes_on c state b w e list y =
    let going = c.goes_on in
    passes_halted state b w _ list (comes_inferred state _ b w e _ list y) _ e (fails_where going.result c.if-not-goes_on.true-raw going.ensures) _

pub returns-then-not-is_a : goal.returns-then-not-is_a
returns-then-not-is_a c state b w e list y =
    let told = c.is_a in
    let going = c.goes_on in
    passes_then state b w _ list (comes_inferred state _ b w e _ list y) _ e (holds_else going.result c.if-not-goes_on.false-raw going.ensures) _ list
    (λ sound j so.
    passes_taken sound
    (unfit (no_falsity _ j.1 j.2 (not_falsity _ 0 _ so.0.means (fails_where told.result c.if-not-is_a.true-raw told.ensures))) c.misfit.ensures))

pub returns : goal.returns
returns c state b w e list y =
    let told = c.is_a in
    let going = c.goes_on in
    passes_then state b w _ list (comes_inferred state _ b w e _ list y) _ e (holds_else going.result c.if-not-goes_on.false-raw going.ensures) _ list
    (λ sound j so.
    passes_taken {q = 0} sound
    (takes tt (falsity_there _ j.1 j.2 (falsity_shape _ 0 _ so.0.means (holds_else told.result c.if-not-is_a.false-raw told.ensures)).is) refl so.1))
