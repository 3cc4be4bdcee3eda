-- What a call that writes hands back to C, and how an answer tells whether it goes on: no refusal has the answer of a grant.
use Prim.Native.Nat.{ℕ}
use mathlib.Core.Path.{◌≡◌, refl, sym, ap, ◌∙◌}
use mathlib.Core.List.{List}
use native.Mathlib.Omega.{arith}
use Rattle.procap.specs.Answers.{number_of}
use Rattle.std.specs.Prelude.{Err, Ok}
use Rattle.procap.specs.Outcome.{Outcome, go_on, answer_of, procap_handed}
use Rattle.procap.specs.declared.answer.Answer.{Answer}
use Rattle.procap.specs.declared.answer.Answer.TheVariants.{Granted}
use Rattle.procap.specs.declared.procap.Procap.{Procap}
use Rattle.procap.proofs.Refused.{IfRefused}
use Rattle.text.specs.Calls.{length_given, buffer_left, Wrote}
use Rattle.text.specs.declared.writer.WrittenText.{WrittenText}
use Rattle.cases.proofs.Refusals.{Refuses}
use Rattle.from_c.specs.Packing.{packed, HandsBack}

module _ (o : Outcome (List ℕ)) (before : List ℕ) (number : ℕ) where
  -- What was written is handed back.
  pub hands_back_written : (after : List ℕ) (w : WrittenText) → number ≡ packed w.answer w.length → Wrote o before w after
      → HandsBack o before number after
  hands_back_written after w packs wrote = (packs ∙ rw (wrote.answer, wrote.length_told) refl, wrote.buffer)

  -- So is what was written for an outcome that is the same.
  pub hands_back_so_written : (other : Outcome (List ℕ)) (after : List ℕ) (w : WrittenText) → number ≡ packed w.answer w.length
      → Wrote other before w after → o ≡ other → HandsBack o before number after
  hands_back_so_written other after w packs wrote same = hands_back_written after w packs (rw (sym same) at wrote)

  -- A refusal is handed back with the length 0, and the buffer is as it was.
  pub hands_back_refused : (answer : Answer) → number ≡ packed answer 0 → o ≡ Err answer → HandsBack o before number before
  unfolding answer_of length_given buffer_left
  hands_back_refused answer packs refuses = rw refuses (packs, refl)

module _ (o : Outcome Procap) (answer : Answer) (given : answer ≡ answer_of o) (f : Procap → Outcome (List ℕ)) where
  -- What is not granted is a refusal, and nothing goes on from it.
  pub stops_there : (answer ≡ Granted → ⊥) → go_on o f ≡ Err answer
  unfolding answer_of go_on
  stops_there other = by o given
    where
      by : (x : Outcome Procap) → answer ≡ answer_of x → go_on x f ≡ Err answer
      by (Ok p) same = absurd (other same)
      by (Err a) same = ap Err (sym same)

  -- From what is granted it goes on with the procap that is handed over.
  pub goes_on_with : IfRefused Refuses o → answer ≡ Granted → (p : Procap) → p ≡ procap_handed o → go_on o f ≡ f p
  unfolding answer_of go_on procap_handed
  goes_on_with refuses granted p handed = by o given refuses handed
    where
      by : (x : Outcome Procap) → answer ≡ answer_of x → IfRefused Refuses x → p ≡ procap_handed x → go_on x f ≡ f p
      by (Ok q) same no_grant is = ap f (sym is)
      by (Err a) same no_grant is = let numbers = ap number_of (sym same ∙ granted) in absurd (omega (arith, no_grant))
