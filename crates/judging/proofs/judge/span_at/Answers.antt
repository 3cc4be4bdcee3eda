-- Both places are read; each must be a term, and a time.
use mathlib.Core.Path.{refl, ◌∙◌, ap}
use Rattle.bl.specs.Trees.{fixed}
use Rattle.judging.specs.Judging.{takes, unfit}
use Rattle.judging.proofs.WalkParts.{times_there, no_first_time, no_second_time}
use Rattle.judging.proofs.PlacesTaken.{is_fixed, is_bound, bound_no_time, name_no_time, both_placed, no_place, no_second_place}
use Rattle.judging.proofs.judge.span_at.Goals as goal

pub returns-in_default : goal.returns-in_default
returns-in_default c = λ sorts x y middle end few one other. absurd (no_place _ _ c.in_default.ensures sorts x middle one)

pub returns-in_default-place_if_any : goal.returns-in_default-place_if_any
returns-in_default-place_if_any c =
    λ sorts x y middle end few one other. absurd (no_second_place _ _ c.in-Some.ensures c.in_default-place_if_any.ensures sorts x y middle end one other)

pub returns-in_default-one_place : goal.returns-in_default-one_place
returns-in_default-one_place c =
    λ sorts x y middle end few one other.
    let p = both_placed _ _ c.in-Some.ensures c.in-Some-place_if_any.ensures sorts x y middle end few one other in
    unfit (no_first_time _ _ (bound_no_time (is_bound p.first c.in_default-one_place.is))) c.no_span-in_default-one_place.ensures

pub returns-in_default-other_place : goal.returns-in_default-other_place
returns-in_default-other_place c =
    λ sorts x y middle end few one other.
    let p = both_placed _ _ c.in-Some.ensures c.in-Some-place_if_any.ensures sorts x y middle end few one other in
    unfit (no_second_time _ _ (bound_no_time (is_bound p.second c.in_default-other_place.is))) c.no_span-in_default-other_place.ensures

pub returns-in_default-one_term : goal.returns-in_default-one_term
returns-in_default-one_term c =
    λ sorts x y middle end few one other.
    let p = both_placed _ _ c.in-Some.ensures c.in-Some-place_if_any.ensures sorts x y middle end few one other in
    let name = is_fixed p.first c.in-Fixed.is ∙ ap fixed c.in_default-one_term.is in
    unfit (no_first_time _ _ (name_no_time name)) c.no_span-in_default-one_term.ensures

pub returns-in_default-other_term : goal.returns-in_default-other_term
returns-in_default-other_term c =
    λ sorts x y middle end few one other.
    let p = both_placed _ _ c.in-Some.ensures c.in-Some-place_if_any.ensures sorts x y middle end few one other in
    let name = is_fixed p.second c.in-Fixed-other_place.is ∙ ap fixed c.in_default-other_term.is in
    unfit (no_second_time _ _ (name_no_time name)) c.no_span-in_default-other_term.ensures

pub returns : goal.returns
returns c =
    λ sorts x y middle end few one other.
    let p = both_placed _ _ c.in-Some.ensures c.in-Some-place_if_any.ensures sorts x y middle end few one other in
    let first = is_fixed p.first c.in-Fixed.is ∙ ap fixed c.in-When.is in
    let second = is_fixed p.second c.in-Fixed-other_place.is ∙ ap fixed c.in-When-other_term.is in
    takes (_, _) (times_there _ first second) refl (refl, refl, p.ends)
