-- The levels left fall at each formula inside another: a formula is as its tag says, and its two sides and the body of a binder are formulas
-- one level lower.
use mathlib.Core.Path.{sym}
use Rattle.std.specs.Prelude.{None, Some}
use Rattle.bl.specs.Formulas.{formula}
use Rattle.formula.proofs.Endings.{no_level, untagged_formula, formula_announced, ninth_binder, body_ends, sides_end as both-sides-end, no_first_side, leaf_ends, two_sided_ends, all_names_ends, all_times_ends, says_ends, nobody_says, at_ends, at_no_times, headed_ends, order_ends}
use Rattle.formula.proofs.ends.+body_end_formula_end_sides_end.Goals as goal

pub body_end-returns-in_err-inside : goal.body_end-returns-in_err-inside
body_end-returns-in_err-inside t c = rw c.from_residual.ensures (ninth_binder _ _ _ _ _ c.in_err-inside.ensures)

pub body_end-returns : goal.body_end-returns
body_end-returns t c = body_ends _ _ _ _ _ c.formula_end.result _ c.in_ok-inside.ensures c.formula_end.ensures

pub formula_end-returns-then-left-eq0 : goal.formula_end-returns-then-left-eq0
formula_end-returns-then-left-eq0 t c = no_level _ _ _ _ c.if-left-eq0.true

pub formula_end-returns-in_err-tag_at : goal.formula_end-returns-in_err-tag_at
formula_end-returns-in_err-tag_at t c = rw c.from_residual.ensures (untagged_formula _ _ _ _ (sym c.in_err-tag_at.ensures))

pub formula_end-returns-in_err-who-in-SaysTag : goal.formula_end-returns-in_err-who-in-SaysTag
formula_end-returns-in_err-who-in-SaysTag t c =
    rw c.from_residual-in_err-who-in-SaysTag.ensures
    (formula_announced _ _ _ _ _ _ None c.if-left-eq0.false (sym c.in_ok-tag_at.ensures) c.past-after.ensures.there
    (nobody_says _ _ _ _ c.in-SaysTag.is c.in_err-who-in-SaysTag.ensures))

pub formula_end-returns-in_err-interval-in-AtTag : goal.formula_end-returns-in_err-interval-in-AtTag
formula_end-returns-in_err-interval-in-AtTag t c =
    rw c.from_residual-in_err-interval-in-AtTag.ensures
    (formula_announced _ _ _ _ _ _ None c.if-left-eq0.false (sym c.in_ok-tag_at.ensures) c.past-after.ensures.there
    (at_no_times _ _ _ _ c.in-AtTag.is c.in_err-interval-in-AtTag.ensures))

pub formula_end-returns-in-TopTag : goal.formula_end-returns-in-TopTag
formula_end-returns-in-TopTag t c =
    formula_announced _ _ _ _ _ _ (Some _) c.if-left-eq0.false (sym c.in_ok-tag_at.ensures) c.past-after.ensures.there
    (leaf_ends _ _ _ _ c.in-TopTag.is)

pub formula_end-returns-in-AndTag : goal.formula_end-returns-in-AndTag
formula_end-returns-in-AndTag t c =
    formula_announced _ _ _ _ _ _ c.sides_end.result c.if-left-eq0.false (sym c.in_ok-tag_at.ensures) c.past-after.ensures.there
    (two_sided_ends _ _ _ _ c.sides_end.result c.in-AndTag.is c.sides_end.ensures)

pub formula_end-returns-in-AllNamesTag : goal.formula_end-returns-in-AllNamesTag
formula_end-returns-in-AllNamesTag t c =
    formula_announced _ _ _ _ _ _ c.body_end.result c.if-left-eq0.false (sym c.in_ok-tag_at.ensures) c.past-after.ensures.there
    (all_names_ends _ _ _ _ c.body_end.result c.in-AllNamesTag.is c.body_end.ensures)

pub formula_end-returns-in-AllTimesTag : goal.formula_end-returns-in-AllTimesTag
formula_end-returns-in-AllTimesTag t c =
    let call = c.body_end-in-AllTimesTag in
    formula_announced _ _ _ _ _ _ call.result c.if-left-eq0.false (sym c.in_ok-tag_at.ensures) c.past-after.ensures.there
    (all_times_ends _ _ _ _ call.result c.in-AllTimesTag.is call.ensures)

pub formula_end-returns-in_ok-who-in-SaysTag : goal.formula_end-returns-in_ok-who-in-SaysTag
formula_end-returns-in_ok-who-in-SaysTag t c =
    formula_announced _ _ _ _ _ _ c.formula_end.result c.if-left-eq0.false (sym c.in_ok-tag_at.ensures) c.past-after.ensures.there
    (says_ends _ _ _ _ _ c.formula_end.result c.in-SaysTag.is c.in_ok-who-in-SaysTag.ensures c.formula_end.ensures)

pub formula_end-returns-in_ok-interval-in-AtTag : goal.formula_end-returns-in_ok-interval-in-AtTag
formula_end-returns-in_ok-interval-in-AtTag t c =
    let call = c.formula_end-in-AtTag in
    formula_announced _ _ _ _ _ _ call.result c.if-left-eq0.false (sym c.in_ok-tag_at.ensures) c.past-after.ensures.there
    (at_ends _ _ _ _ _ call.result c.in-AtTag.is c.in_ok-interval-in-AtTag.ensures call.ensures)

pub formula_end-returns-in-AtomTag : goal.formula_end-returns-in-AtomTag
formula_end-returns-in-AtomTag t c =
    formula_announced _ _ _ _ _ _ c.arguments_end.result c.if-left-eq0.false (sym c.in_ok-tag_at.ensures) c.past-after.ensures.there
    (headed_ends _ _ _ _ c.arguments_end.result c.in-AtomTag.is c.arguments_end.ensures)

pub formula_end-returns-in-OrderTag : goal.formula_end-returns-in-OrderTag
formula_end-returns-in-OrderTag t c =
    let call = c.two_times_end-in-OrderTag in
    formula_announced _ _ _ _ _ _ call.result c.if-left-eq0.false (sym c.in_ok-tag_at.ensures) c.past-after.ensures.there
    (order_ends _ _ _ _ call.result c.in-OrderTag.is call.ensures)

pub sides_end-returns-in_err-middle : goal.sides_end-returns-in_err-middle
sides_end-returns-in_err-middle t c =
    let args = c.args in
    rw c.from_residual.ensures (no_first_side args.part.now (formula args.part.now args.left) args.binders.now args.at c.in_err-middle.ensures)

pub sides_end-returns : goal.sides_end-returns
sides_end-returns t c =
    let args = c.args in
    both-sides-end args.part.now (formula args.part.now args.left) args.binders.now args.at _ c.formula_end-2.result c.in_ok-middle.ensures c.formula_end-2.ensures
