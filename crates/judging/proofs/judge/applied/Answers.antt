-- The two times after the second step, the two sides of the implication, and then the intervals, over which a stopped ledger stays as it is.
use mathlib.Core.Path.{refl, sym}
use Rattle.procap.proofs.ReadApart.{same_read}
use Rattle.judging.specs.Judging.{sides, TwoSided}
use Rattle.judging.proofs.JudgingLaws.{put_to_use}
use Rattle.judging.proofs.judge.applied.Goals as goal

pub returns : goal.returns
unfolding sides TwoSided
returns c =
    λ state list F a b t1 t2 k e₃ e₄ going s on time₁ time₂.
    let begins = same_read _ (sym (c.in-Some.ensures k)) time₁ in
    let ends = same_read _ (sym (c.in-Some-time_if_any.ensures k)) (rw (← begins.1) at time₂) in
    put_to_use c.args.inferred.judgement c.sides_of-parts.result.first c.sides_of-parts.result.second _ on.from on.to begins.0 ends.0 s
    (c.sides_of-parts.ensures F tt on.means)
    (λ sound. c.covers.ensures state list sound)
    (rw c.part_at.ensures refl)
    refl
    refl
    ends.1
