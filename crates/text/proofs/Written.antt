-- What writing comes to: 12 for a value that cannot be written, then 13 for a buffer that is too short, else the text.
use Prim.Native.Nat.{ℕ, ◌≤◌, ◌<◌}
use mathlib.Core.Path.{◌≡◌, refl, ap, ◌∙◌}
use mathlib.Core.List.{List, ◌++◌}
use native.Mathlib.Decide.{dec_le}
use native.Mathlib.Omega.{arith}
use lib.ListN.{length, drop}
use Rattle.std.specs.Prelude.{Err, Ok}
use Rattle.std.specs.Result.{result_unwrap_or}
use Rattle.procap.specs.Outcome.{Outcome, go_on, answer_of}
use Rattle.procap.specs.Writable.{Writable}
use Rattle.procap.specs.Deciding.{writable?}
use Rattle.procap.specs.declared.answer.Answer.{Answer}
use Rattle.procap.specs.declared.answer.Answer.TheVariants.{ProcapMalformed, BufferShort}
use Rattle.procap.specs.declared.procap.Procap.{Procap}
use Rattle.procap.proofs.Granted.{same_grant, went_on, goes_on, is_so, is_not_so}
use Rattle.text.specs.Text.{text_of}
use Rattle.text.specs.Calls.{fitting, writing, length_given, buffer_left, Left, Wrote}
use Rattle.text.specs.declared.writer.WrittenText.{WrittenText}

module _ (text : List ℕ) (room : ℕ) where
  -- [Numbers 13] A text is refused where it is longer than the room.
  pub too_long : room < length text → fitting text room ≡ Err BufferShort
  unfolding fitting go_on
  too_long l = rw (is_not_so BufferShort (dec_le (length text) room) (λ h. omega arith)) refl

  -- Where it is not, it is what is given.
  pub fits : length text ≤ room → fitting text room ≡ Ok text
  unfolding fitting
  fits l = goes_on _ _ tt (is_so BufferShort (dec_le (length text) room) l)

  -- No other text is given.
  pub fitted : (given : List ℕ) → fitting text room ≡ Ok given → text ≡ given
  unfolding fitting
  fitted given e = went_on _ _ _ e λ _ _ same. same_grant same

module _ (p : Procap) (room : ℕ) where
  -- [Numbers 12] A value that cannot be written is refused, however long the buffer is.
  pub cannot_be_written : (Writable p → ⊥) → writing p room ≡ Err ProcapMalformed
  unfolding writing go_on
  cannot_be_written n = rw (is_not_so ProcapMalformed (writable? p) n) refl

  -- Of one that can be written, it is up to the room.
  pub can_be_written : Writable p → writing p room ≡ fitting (text_of p) room
  unfolding writing
  can_be_written w = goes_on _ _ tt (is_so ProcapMalformed (writable? p) w)

  -- Where it fits, the text is written.
  pub is_written : Writable p → length (text_of p) ≤ room → writing p room ≡ Ok (text_of p)
  is_written w l = can_be_written w ∙ fits (text_of p) room l

-- A refusal writes nothing: the buffer is as it was.
pub nothing_left : (o : Outcome (List ℕ)) (answer : Answer) (before : List ℕ) → o ≡ Err answer → Left o before (Err answer) before
unfolding buffer_left
nothing_left o answer before e = rw e (record { gives = refl; buffer = refl })

-- A text that was copied to the front is left there.
pub text_left : (o : Outcome (List ℕ)) (text before after : List ℕ) → o ≡ Ok text → after ≡ text ++ drop (length text) before
    → Left o before (Ok (length text)) after
unfolding buffer_left
text_left o text before after e copied = rw e (record { gives = refl; buffer = copied })

-- What a write came to, handed back as its answer and its length.
pub handed_back : (o : Outcome (List ℕ)) (before after : List ℕ) (r : Outcome ℕ) (w : WrittenText) → Left o before r after
    → w.answer ≡ answer_of r → w.length ≡ result_unwrap_or r 0 → Wrote o before w after
unfolding answer_of length_given
handed_back (Ok text) before after r w h answer length =
    record { answer = answer ∙ ap answer_of h.gives; length_told = length ∙ ap (λ q. result_unwrap_or q 0) h.gives; buffer = h.buffer }
handed_back (Err refused) before after r w h answer length =
    record { answer = answer ∙ ap answer_of h.gives; length_told = length ∙ ap (λ q. result_unwrap_or q 0) h.gives; buffer = h.buffer }
