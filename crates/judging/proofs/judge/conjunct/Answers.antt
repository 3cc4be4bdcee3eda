-- One of the two sides that were taken is inferred.
use Rattle.std.proofs.Common.{refl}
use Rattle.judging.specs.Judging.{first_side, second_side, sides, TwoSided}
use Rattle.judging.proofs.JudgingLaws.{takes_so, one_side}
use Rattle.judging.proofs.judge.conjunct.Goals as goal

pub returns-in-First : goal.returns-in-First
unfolding first_side sides TwoSided
returns-in-First c =
    let both = c.sides_inferred-sides.ensures in
    λ state b w e list y.
    rw (c.in-First.is, c.part_inferred.ensures) (one_side _ (λ x. x.0) _ y (λ F going m. takes_so (λ x on. on.0) (both.going going F tt m)) both.stopped refl)

pub returns-in-Second : goal.returns-in-Second
unfolding second_side sides TwoSided
returns-in-Second c =
    let both = c.sides_inferred-sides.ensures in
    λ state b w e list y.
    rw (c.in-Second.is, c.part_inferred-in-Second.ensures) (one_side _ (λ x. x.1) _ y (λ F going m. takes_so (λ x on. on.1) (both.going going F tt m)) both.stopped refl)
