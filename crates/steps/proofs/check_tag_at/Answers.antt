-- The byte is the tag, or none; past the end 0 stands for it, which is no tag.
use mathlib.Core.Path.{◌∙◌}
use Rattle.steps.proofs.BytesAt.{as_before, zero_past, here}
use Rattle.steps.proofs.check_tag_at.Goals as goal

pub returns-in_err-byte : goal.returns-in_err-byte
returns-in_err-byte c =
    rw (zero_past c.args.proof.now c.args.at c.in_err-byte.ensures) c.from_residual.ensures

pub returns : goal.returns
returns c =
    rw (here c.args.proof.now c.args.at c.in_ok-byte.ensures) (c.ok.ensures.value ∙ (rw c.try_from.ensures (as_before _ _)))
