-- Presses in a row, all alike: each is counted if the door opens, so all of them are or none is.
use Prim.Native.Nat.{ℕ, ◌+◌, ◌≤◌}
use mathlib.Core.Path.{◌≡◌, refl, sym, ap, ◌∙◌}
use mathlib.Core.List.{List}
use native.Mathlib.Omega.{arith}
use Rattle.procap.specs.Answers.{number_of}
use Rattle.std.specs.Prelude.{Err, Ok}
use Rattle.procap.specs.Outcome.{Outcome, answer_of, procap_handed}
use Rattle.procap.specs.declared.answer.Answer.{Answer}
use Rattle.procap.specs.declared.answer.Answer.TheVariants.{Granted}
use Rattle.procap.specs.declared.procap.Request.{Request}
use Rattle.procap.specs.declared.procap.Procap.{Procap}
use Rattle.procap.proofs.AnswerNumbers.{zero_exactly_when_granted}
use Rattle.text.specs.Calls.{reading}
use Rattle.door.specs.Door.{opening, opening_text, packed}
use Rattle.door.proofs.Answering.{zero_exactly_when_open}
use Rattle.door.proofs.Texts.{unread, read_opens}
use Rattle.from_c.specs.Calls.{opened_of}

-- Of no presses none goes through, and of any number no more than there are.
pub none_pressed : (o : Outcome (Unit {0})) → 0 ≡ opened_of o 0
unfolding opened_of
none_pressed (Ok u) = refl
none_pressed (Err answer) = refl

pub at_most_all : (o : Outcome (Unit {0})) (opened n : ℕ) → opened ≡ opened_of o n → opened ≤ n
unfolding opened_of
at_most_all (Ok u) opened n e = omega arith
at_most_all (Err answer) opened n e = omega arith

-- Where the door opens, one press more is one more that goes through; where it does not, as many go through of any number: none.
one_more : (o : Outcome (Unit {0})) (n : ℕ) → o ≡ Ok tt → opened_of o n + 1 ≡ opened_of o (n + 1)
unfolding opened_of
one_more o n e = rw e refl

no_more : (o : Outcome (Unit {0})) (n m : ℕ) → (answer_of o ≡ Granted → ⊥) → opened_of o n ≡ opened_of o m
unfolding opened_of answer_of
no_more (Ok u) n m k = absurd (k refl)
no_more (Err answer) n m k = refl

-- What the reader answers to a text, and presses with that text.
module _ (text : List ℕ) (answer : Answer) (given : answer ≡ answer_of (reading text)) (r : Request) (m : ℕ) (state : List ℕ) where
  -- With a text that does not read none goes through.
  pub unread_presses : (answer ≡ Granted → ⊥) → (n : ℕ) → 0 ≡ opened_of (opening_text text r m state) n
  unread_presses k n =
      let same = unread text answer given r m state (λ zero. k ((zero_exactly_when_granted answer).0 zero)) in
      none_pressed _ ∙ no_more (opening_text text r m state) 0 n (λ e. k (same ∙ e))

  -- With one that does, each press comes to what the door answers to the procap that it says.
  module _ (p : Procap) (handed : p ≡ procap_handed (reading text)) (granted : answer ≡ Granted)
      (pressed : Answer) (told : pressed ≡ answer_of (opening p r m state)) (n opened : ℕ)
      (so_far : opened ≡ opened_of (opening_text text r m state) n) where
    same : pressed ≡ answer_of (opening_text text r m state)
    same = told ∙ ap answer_of (sym (read_opens text answer given p handed (ap number_of granted) r m state))

    -- So a press that is granted is one more that goes through,
    pub press_opens : pressed ≡ Granted → opened + 1 ≡ opened_of (opening_text text r m state) (n + 1)
    press_opens e =
        let opens = (zero_exactly_when_open text r m state).0 (ap packed (sym same ∙ e)) in
        ap (λ k. k + 1) so_far ∙ one_more (opening_text text r m state) n opens

    -- and any other is none.
    pub press_refused : (pressed ≡ Granted → ⊥) → opened ≡ opened_of (opening_text text r m state) (n + 1)
    press_refused k = so_far ∙ no_more (opening_text text r m state) n (n + 1) (λ e. k (same ∙ e))
