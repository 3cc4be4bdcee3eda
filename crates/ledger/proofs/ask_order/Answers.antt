-- A ledger that has stopped stays. At the office the order narrows the moments as it is decided; at a press it is true there, or stops the walk.
use mathlib.Core.Path.{sym, ◌∙◌}
use mathlib.Core.Logic.{if_pos, if_neg}
use Rattle.procap.specs.Deciding.{at_most?}
use Rattle.procap.proofs.Telling.{holds, fails, holds_else, fails_where}
use Rattle.ledger.specs.Asking.{order_asked}
use Rattle.ledger.proofs.Asked.{asked_stopped, asked_office, asked_press}
use Rattle.ledger.proofs.ask_order.Goals as goal

pub returns-then-not-goes_on : goal.returns-then-not-goes_on
unfolding order_asked
returns-then-not-goes_on c =
    let told = c.goes_on in
    asked_stopped _ _ _ _ (fails_where told.result c.if-not-goes_on.true-raw told.ensures)

pub returns-then-press-eq0 : goal.returns-then-press-eq0
unfolding order_asked
returns-then-press-eq0 c =
    let told = c.goes_on in
    rw (c.narrowed.ensures, c.decide.ensures)
    (asked_office _ _ _ _ (holds_else told.result c.if-not-goes_on.false-raw told.ensures) c.if-press-eq0.true)

pub returns-then-at_most : goal.returns-then-at_most
unfolding order_asked
returns-then-at_most c =
    let told = c.at_most in
    let on = c.goes_on in
    sym (if_pos (at_most? _ _ _) (holds told.result c.if-at_most.true told.ensures) _ _)
    ∙ asked_press _ _ _ _ (holds_else on.result c.if-not-goes_on.false-raw on.ensures) c.if-press-eq0.false

pub returns : goal.returns
unfolding order_asked
returns c =
    let told = c.at_most in
    let on = c.goes_on in
    c.stopped.ensures
    ∙ sym (if_neg (at_most? _ _ _) (fails told.result c.if-at_most.false told.ensures) _ _)
    ∙ asked_press _ _ _ _ (holds_else on.result c.if-not-goes_on.false-raw on.ensures) c.if-press-eq0.false
