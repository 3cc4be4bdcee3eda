-- Bytes of another length than a value's are no value: 12. To a value the door answers, and its answer is handed over as a number.
use Prim.Native.Nat.{ℕ}
use mathlib.Core.Path.{◌≡◌, sym, ap, ◌∙◌}
use mathlib.Core.List.{List}
use lib.ListN.{length}
use Rattle.procap.specs.Outcome.{answer_of}
use Rattle.procap.specs.declared.answer.Answer.{Answer}
use Rattle.procap.specs.declared.answer.Answer.TheVariants.{ProcapMalformed}
use Rattle.procap.specs.declared.procap.Request.{Request}
use Rattle.procap.specs.declared.procap.Procap.{Procap}
use Rattle.door.specs.Door.{opening}
use Rattle.from_c.specs.Values.{value_bytes, value_of}
use Rattle.from_c.specs.Packing.{packed}
use Rattle.from_c.specs.Calls.{value_opening}
use Rattle.from_c.proofs.ValuesRead.{value_goes_on, value_refused}
use Rattle.from_c.proofs.desk.desk_door_on_value.Goals as goal

module _ (bytes : List ℕ) where
  -- To bytes of another length the door answers 12.
  no-value-opens : (length bytes ≡ value_bytes → ⊥) → (r : Request) (m : ℕ) (state : List ℕ)
      → ProcapMalformed ≡ answer_of (value_opening bytes r m state)
  unfolding value_opening answer_of
  no-value-opens n r m state = ap answer_of (sym (value_refused bytes (λ p. opening p r m state) n))

  -- To the others it answers what it does to the value.
  value-opens : length bytes ≡ value_bytes → (p : Procap) → p ≡ value_of bytes → (r : Request) (m : ℕ) (state : List ℕ)
      (answer : Answer) → answer ≡ answer_of (opening p r m state) → answer ≡ answer_of (value_opening bytes r m state)
  unfolding value_opening
  value-opens l p e r m state answer given =
      given ∙ ap (λ q. answer_of (opening q r m state)) e ∙ ap answer_of (sym (value_goes_on bytes (λ q. opening q r m state) l))

pub returns-then-value-ne-VALUE_BYTES : goal.returns-then-value-ne-VALUE_BYTES
returns-then-value-ne-VALUE_BYTES c = c.as_number.ensures ∙ ap (λ a. packed a 0) (no-value-opens _ c.if-value-ne-VALUE_BYTES.true _ _ _)

pub returns : goal.returns
returns c =
    let opened = rw c.of-request.ensures at c.open.ensures in
    let answered = value-opens _ c.if-value-ne-VALUE_BYTES.false _ c.value_of.ensures _ _ _ _ opened in
    c.as_number-2.ensures ∙ ap (λ a. packed a 0) answered
