-- Two formulas are compared by their tags, and then part by part.
-- At each part the levels left fall by one; a rank beside them falls from each function to the one that it calls.
use Prim.Native.Nat.{suc, ◌-◌}
use mathlib.Core.Path.{◌≡◌, sym, ap, ◌∙◌}
use native.Mathlib.Numerals.{add-one}
use native.Mathlib.Omega.{arith}
use Rattle.procap.proofs.Telling.{holds_else, fails_where}
use Rattle.formula.specs.Comparing.{two_at, two_under}
use Rattle.formula.proofs.Comparing.{stops_before, goes_on_after}
use Rattle.formula.proofs.ComparingTags.{no_levels, no_tag, unlike}
use Rattle.formula.proofs.ComparingParts.{leaf_same, two_sided_same, under_same, says_same, at_same, headed_same, order_same}
use Rattle.formula.proofs.compare.Pair.+same_after_same_body_same_formulas_same_tagged.Goals as goal

pub same_after-returns-then-not-goes_on : goal.same_after-returns-then-not-goes_on
same_after-returns-then-not-goes_on t c =
    let going = c.goes_on in
    stops_before _ _ _ (two_under c.args.self.now c.args.under) _ (fails_where going.result c.if-not-goes_on.true-raw going.ensures)

pub same_after-returns : goal.same_after-returns
same_after-returns t c =
    let going = c.goes_on in
    goes_on_after _ _ _ (two_under c.args.self.now c.args.under) _ _ (holds_else going.result c.if-not-goes_on.false-raw going.ensures) c.same_formulas.ensures

pub same_body-returns : goal.same_body-returns
same_body-returns t c = λ room. rw (add-one c.args.spot.under) at c.same_formulas.ensures

pub same_formulas-returns-then-levels-eq0 : goal.same_formulas-returns-then-levels-eq0
same_formulas-returns-then-levels-eq0 t c = no_levels _ _ _ _ _ _ c.if-levels-eq0.true

pub same_formulas-returns-in_default : goal.same_formulas-returns-in_default
same_formulas-returns-in_default t c = no_tag _ _ _ _ _ _ (sym c.in_default.ensures)

pub same_formulas-returns-then-not-is_a : goal.same_formulas-returns-then-not-is_a
same_formulas-returns-then-not-is_a t c =
    let same = c.is_a in
    unlike _ _ _ _ _ _ (λ e. fails_where same.result c.if-not-is_a.true-raw same.ensures (sym e ∙ sym c.in-Some.ensures))
    c.different-then-not-is_a.ensures

pub same_formulas-returns : goal.same_formulas-returns
same_formulas-returns t c =
    let same = c.is_a in
    let levels = c.args.levels in
    let all : suc (levels - 1) ≡ levels = omega (arith, c.if-levels-eq0.false) in
    rw all at (c.same_tagged.ensures (sym c.in-Some.ensures) (holds_else same.result c.if-not-is_a.false-raw same.ensures))

pub same_tagged-returns-in-TopTag : goal.same_tagged-returns-in-TopTag
same_tagged-returns-in-TopTag t c =
    leaf_same _ _ (two_at c.args.self.now c.args.spot) _ _ _ _ _ (λ i j. ap (two_at c.args.self.now) (c.past_tags-parts.ensures i j)) c.in-TopTag.is c.equal.ensures

pub same_tagged-returns-in-AndTag : goal.same_tagged-returns-in-AndTag
same_tagged-returns-in-AndTag t c =
    two_sided_same _ _ (two_at c.args.self.now c.args.spot) _ _ _ _ _ (λ i j. ap (two_at c.args.self.now) (c.past_tags-parts.ensures i j)) c.in-AndTag.is c.same_formulas-one.result
    c.same_formulas-one.ensures
    c.same_after.ensures

pub same_tagged-returns-in-AllNamesTag : goal.same_tagged-returns-in-AllNamesTag
same_tagged-returns-in-AllNamesTag t c =
    under_same _ _ (two_at c.args.self.now c.args.spot) _ _ _ _ _ (λ i j. ap (two_at c.args.self.now) (c.past_tags-parts.ensures i j)) c.in-AllNamesTag.is c.same_body.ensures

pub same_tagged-returns-in-SaysTag : goal.same_tagged-returns-in-SaysTag
same_tagged-returns-in-SaysTag t c =
    says_same _ _ (two_at c.args.self.now c.args.spot) _ _ _ _ _ (λ i j. ap (two_at c.args.self.now) (c.past_tags-parts.ensures i j)) c.in-SaysTag.is c.same_places-who.result
    c.same_places-who.ensures
    c.same_after-in-SaysTag.ensures

pub same_tagged-returns-in-AtTag : goal.same_tagged-returns-in-AtTag
same_tagged-returns-in-AtTag t c =
    at_same _ _ (two_at c.args.self.now c.args.spot) _ _ _ _ _ (λ i j. ap (two_at c.args.self.now) (c.past_tags-parts.ensures i j)) c.in-AtTag.is c.same_places-ends.result
    c.same_places-ends.ensures
    c.same_after-in-AtTag.ensures

pub same_tagged-returns-in-AtomTag : goal.same_tagged-returns-in-AtomTag
same_tagged-returns-in-AtomTag t c =
    headed_same _ _ (two_at c.args.self.now c.args.spot) _ _ _ _ _ (λ i j. ap (two_at c.args.self.now) (c.past_tags-parts.ensures i j)) c.in-AtomTag.is c.same_heads.ensures

pub same_tagged-returns-in-OrderTag : goal.same_tagged-returns-in-OrderTag
same_tagged-returns-in-OrderTag t c =
    order_same _ _ (two_at c.args.self.now c.args.spot) _ _ _ _ _ (λ i j. ap (two_at c.args.self.now) (c.past_tags-parts.ensures i j)) c.in-OrderTag.is c.same_places.ensures
