-- A text that does not read lets no press through. One that does says the procap with which the door is asked each time, so that
-- each press comes to what the text comes to.
use mathlib.Core.Path.{◌≡◌}
use Rattle.procap.specs.Procaps.{request_of}
use Rattle.door.specs.Door.{opening_text}
use Rattle.from_c.specs.Calls.{opened_of}
use Rattle.from_c.proofs.desk.desk_presses.Given as goal

abbrev pub invariant-loop-press : goal.invariant-loop-press
invariant-loop-press l = l.opened ≡ opened_of (opening_text l.text (request_of l.who l.what l.right) l.moment l.state) l.press
