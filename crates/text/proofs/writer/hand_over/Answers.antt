-- The test is whether the text fits; where it does, it is copied.
use mathlib.Core.Path.{refl}
use Rattle.text.proofs.Written.{too_long, fits, nothing_left, text_left}
use Rattle.text.proofs.writer.hand_over.Goals as goal

pub returns-then-out-text : goal.returns-then-out-text
returns-then-out-text c = nothing_left _ _ _ (too_long _ _ c.if-out-text.true)

pub returns : goal.returns
returns c = text_left _ _ _ _ (fits _ _ c.if-out-text.false) (rw c.copy_from_slice.ensures.after refl)
