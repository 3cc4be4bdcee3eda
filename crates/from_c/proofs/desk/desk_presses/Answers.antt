-- A text that does not read lets no press through. One that does says the procap with which the door is asked each time, so that
-- each press comes to what the text comes to.
use mathlib.Core.Path.{◌∙◌}
use native.Mathlib.Omega.{arith}
use Rattle.from_c.proofs.Presses.{at_most_all, none_pressed, unread_presses, press_opens, press_refused}
use Rattle.from_c.proofs.desk.desk_presses.Goals as goal
use Rattle.from_c.proofs.desk.desk_presses.Goals.{in-Granted-open, in_default-open}

pub returns-in_default : goal.returns-in_default
returns-in_default c = unread_presses _ _ c.read_text-read.ensures.answer _ _ _ c.in_default.not-Granted _

pub loop-press-init : goal.loop-press-init
loop-press-init c = none_pressed _

pub overflow_add-opened : goal.overflow_add-opened
overflow_add-opened c = omega (arith, at_most_all _ _ _ c.loop-press.invariant)

pub loop-press-preserved : goal.loop-press-preserved
loop-press-preserved c =
    let read = c.read_text-read.ensures in
    let pressed = rw c.of-request.ensures at c.open.ensures in
    let opens = press_opens _ _ read.answer _ _ _ _ read.procap c.in-Granted.is _ pressed _ _ c.loop-press.invariant in
    let refused = press_refused _ _ read.answer _ _ _ _ read.procap c.in-Granted.is _ pressed _ _ c.loop-press.invariant in
    elim c.match-open.branch [
      | in-Granted-open w ↦ w.opened-is ∙ opens w.in-Granted-open.is
      | in_default-open w ↦ w.opened-is ∙ refused w.in_default-open.not-Granted
    ]
