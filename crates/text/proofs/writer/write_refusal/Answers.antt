-- The two lines are spelled where there is room for every text, handed over from there, and what that came to is handed back.
use mathlib.Core.Path.{◌≡◌, ap, ◌∙◌}
use mathlib.Core.List.{◌++◌}
use native.Mathlib.Omega.{arith}
use lib.ListN.{length}
use Rattle.text.specs.Text.{refusal_text}
use Rattle.text.proofs.Longest.{refusal_at_most_38}
use Rattle.text.proofs.Written.{handed_back}
use Rattle.text.proofs.writer.write_refusal.Goals as goal

pub refusal-requires : goal.refusal-requires
refusal-requires c = omega (arith, ap length c.new-pen.ensures, refusal_at_most_38 c.args.answer)

pub returns : goal.returns
returns c =
    let text : c.text.result.now ≡ refusal_text c.args.answer =
    c.text.ensures ∙ c.refusal.ensures ∙ ap (λ bs. bs ++ refusal_text c.args.answer) c.new-pen.ensures in
    handed_back _ _ _ _ _ (rw text at c.hand_over.ensures) c.told.ensures.answer c.told.ensures.length
