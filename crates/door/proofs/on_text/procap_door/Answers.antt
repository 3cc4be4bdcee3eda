-- The door's answer has a small place, so that the number holds it.
use mathlib.Core.Path.{ap, ◌∙◌}
use Rattle.procap.specs.Outcome.{answer_of}
use Rattle.door.proofs.Texts.{small_place}
use Rattle.door.proofs.on_text.procap_door.Goals as goal

pub as_number-requires : goal.as_number-requires
as_number-requires c = small_place _ _ _ _ _ (c.answer_of.ensures ∙ ap answer_of c.opening_text.ensures)
