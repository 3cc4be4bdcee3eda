-- The formula ends where the law of its tag says, and each formula inside of it has one level less.
use mathlib.Core.Path.{refl, sym}
use Rattle.formula.proofs.FormulaEnds.{none_left, untagged_ends, leaf_ends, both_end, first_missing, two_sided_ends, all_end, says_ends, nobody_says, at_ends, at_no_from, at_no_to, order_ends, order_no_first, headed_end}
use Rattle.formula.proofs.parts.+past_formula_if_any.Goals as goal

pub returns-then-left-eq0 : goal.returns-then-left-eq0
returns-then-left-eq0 t c = none_left _ _ _ _ c.if-left-eq0.true

pub returns-in_err-tag_at : goal.returns-in_err-tag_at
returns-in_err-tag_at t c = untagged_ends _ _ _ _ (sym c.in_err-tag_at.ensures)

pub returns-in-TopTag : goal.returns-in-TopTag
returns-in-TopTag t c = leaf_ends _ _ _ _ _ _ (sym c.in_ok-tag_at.ensures) c.past-after.ensures.there c.in-TopTag.is refl

pub returns-in_err-middle-in-AndTag : goal.returns-in_err-middle-in-AndTag
returns-in_err-middle-in-AndTag t c =
    let told = sym c.in_ok-tag_at.ensures in
    let past = c.past-after.ensures.there in
    two_sided_ends _ _ _ _ _ _ told past c.in-AndTag.is (first_missing _ _ _ _ _ _ told past c.in_err-middle-in-AndTag.ensures)

pub returns-in_ok-middle-in-AndTag : goal.returns-in_ok-middle-in-AndTag
returns-in_ok-middle-in-AndTag t c =
    let told = sym c.in_ok-tag_at.ensures in
    let past = c.past-after.ensures.there in
    two_sided_ends _ _ _ _ _ _ told past c.in-AndTag.is
    (both_end _ _ _ _ _ _ told past _ c.in_ok-middle-in-AndTag.ensures c.past_formula_if_any-in-AndTag.ensures)

pub returns-in-AllNamesTag : goal.returns-in-AllNamesTag
returns-in-AllNamesTag t c =
    all_end _ _ _ _ _ _ (sym c.in_ok-tag_at.ensures) c.past-after.ensures.there c.past_formula_if_any-in-AllNamesTag.ensures c.in-AllNamesTag.is

pub returns-in_err-who-in-SaysTag : goal.returns-in_err-who-in-SaysTag
returns-in_err-who-in-SaysTag t c =
    nobody_says _ _ _ _ _ _ (sym c.in_ok-tag_at.ensures) c.past-after.ensures.there c.in_err-who-in-SaysTag.ensures c.in-SaysTag.is

pub returns-in_ok-who-in-SaysTag : goal.returns-in_ok-who-in-SaysTag
returns-in_ok-who-in-SaysTag t c =
    says_ends _ _ _ _ _ _ (sym c.in_ok-tag_at.ensures) c.past-after.ensures.there _ c.in_ok-who-in-SaysTag.ensures c.past_formula_if_any-in-SaysTag.ensures c.in-SaysTag.is

pub returns-in_err-from-in-AtTag : goal.returns-in_err-from-in-AtTag
returns-in_err-from-in-AtTag t c =
    at_no_from _ _ _ _ _ _ (sym c.in_ok-tag_at.ensures) c.past-after.ensures.there c.in_err-from-in-AtTag.ensures c.in-AtTag.is

pub returns-in_err-to-in-AtTag : goal.returns-in_err-to-in-AtTag
returns-in_err-to-in-AtTag t c =
    at_no_to _ _ _ _ _ _ (sym c.in_ok-tag_at.ensures) c.past-after.ensures.there _ c.in_ok-from-in-AtTag.ensures c.in_err-to-in-AtTag.ensures c.in-AtTag.is

pub returns-in_ok-to-in-AtTag : goal.returns-in_ok-to-in-AtTag
returns-in_ok-to-in-AtTag t c =
    at_ends _ _ _ _ _ _ (sym c.in_ok-tag_at.ensures) c.past-after.ensures.there _ _ c.in_ok-from-in-AtTag.ensures c.in_ok-to-in-AtTag.ensures c.past_formula_if_any-in-AtTag.ensures c.in-AtTag.is

pub returns-in_err-one-in-OrderTag : goal.returns-in_err-one-in-OrderTag
returns-in_err-one-in-OrderTag t c =
    order_no_first _ _ _ _ _ _ (sym c.in_ok-tag_at.ensures) c.past-after.ensures.there c.in_err-one-in-OrderTag.ensures c.in-OrderTag.is

pub returns-in_ok-one-in-OrderTag : goal.returns-in_ok-one-in-OrderTag
returns-in_ok-one-in-OrderTag t c =
    order_ends _ _ _ _ _ _ (sym c.in_ok-tag_at.ensures) c.past-after.ensures.there _ c.in_ok-one-in-OrderTag.ensures c.past_place-in-OrderTag-2.ensures c.in-OrderTag.is

pub returns-in-AtomTag : goal.returns-in-AtomTag
returns-in-AtomTag t c = headed_end _ _ _ _ _ _ (sym c.in_ok-tag_at.ensures) c.past-after.ensures.there c.past_head.ensures c.in-AtomTag.is
