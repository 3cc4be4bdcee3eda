-- With its tag an "at" has two times and then its formula; where it has not, or with another tag, it is a misfit.
use mathlib.Core.Path.{refl}
use Rattle.procap.proofs.Telling.{holds_else, fails_where}
use Rattle.judging.specs.Judging.{unfit}
use Rattle.formula.proofs.Shapes.{not_at}
use Rattle.judging.proofs.JudgingLaws.{takes_so}
use Rattle.judging.proofs.WalkParts.{no_at}
use Rattle.judging.proofs.PlacesTaken.{at_taken}
use Rattle.judging.proofs.judge.lifted.Goals as goal

pub returns-then-not-is_a : goal.returns-then-not-is_a
returns-then-not-is_a c =
    let told = c.is_a in
    λ F m. unfit (no_at _ (not_at _ 0 _ m (fails_where told.result c.if-not-is_a.true-raw told.ensures))) c.not_inside.ensures

pub returns : goal.returns
returns c =
    λ F m.
    takes_so (λ x on. (refl, on))
    (at_taken m c.past.ensures.there _ (holds_else c.is_a.result c.if-not-is_a.false-raw c.is_a.ensures)
    c.span_at-span.ensures
    refl)
