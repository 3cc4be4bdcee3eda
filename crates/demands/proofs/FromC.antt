-- What a caller takes out of the number that is handed to C tells what the call came to: 0 is a grant, whose text stands in front of the
-- buffer; with any other number nothing was written.
use Prim.Native.Nat.{ℕ, ◌≤◌}
use mathlib.Core.Bool.{Bool, true, false}
use mathlib.Core.Path.{◌≡◌, refl, sym, ap, ◌∙◌}
use mathlib.Core.List.{List}
use mathlib.Core.Logic.{◌↔◌}
use native.Mathlib.Omega.{arith}
use lib.ListN.{length, take, drop}
use lib.Dec.{eqb}
use lib.Seq.{take-append_seam}
use Rattle.procap.specs.Answers.{number_of}
use Rattle.procap.specs.Tells.{pick}
use Rattle.std.specs.Prelude.{Err, Ok}
use Rattle.procap.specs.Outcome.{Outcome, answer_of}
use Rattle.procap.specs.Deciding.{writable?}
use Rattle.procap.specs.declared.answer.Answer.TheVariants.{ProcapMalformed}
use Rattle.procap.specs.declared.procap.Request.{Request}
use Rattle.procap.specs.declared.procap.Procap.{Procap}
use Rattle.procap.proofs.AnswerNumbers.{zero_exactly_when_granted}
use Rattle.procap.proofs.Granted.{went_on, was_there, was_so}
use Rattle.procap.proofs.Refused.{IfRefused, go_on_refused}
use Rattle.bl.specs.Calls.{verified, directly}
use Rattle.text.specs.Buffers.{most_text}
use Rattle.text.specs.Reader.{text_in}
use Rattle.text.specs.Calls.{reading, writing, length_given, buffer_left}
use Rattle.text.proofs.Longest.{at_most_1223}
use Rattle.text.proofs.Written.{fitted}
use Rattle.text.proofs.Theorems.{one_text_each, written_is_read}
use Rattle.cases.proofs.Refusals.{Refuses, verified_refuses, reading_refuses, writing_refuses}
use Rattle.from_c.specs.Records.{records_in}
use Rattle.from_c.specs.Pairs.{pair_numbers}
use Rattle.from_c.specs.Packing.{packed, HandsBack, number_in, length_in}
use Rattle.from_c.specs.Values.{value_bytes, value_of, value_in}
use Rattle.from_c.specs.Calls.{verifying, rewriting, value_writing}
use Rattle.from_c.proofs.Unpacking.{unpacked_number, unpacked_length}
use Rattle.demands.specs.Gives.{OfficeDirectGives}
use Rattle.demands.proofs.Telling.{granted_answer, answer_granted, left_of_refusal, directly_refuses}

-- ── A call that writes ──

module _ (o : Outcome (List ℕ)) (before : List ℕ) (number : ℕ) (after : List ℕ) (hands : HandsBack o before number after) where
  -- The number that is taken out is the answer's.
  pub number_told : number_in number ≡ number_of (answer_of o)
  number_told = ap number_in hands.0 ∙ unpacked_number (answer_of o) (length_given o)

  -- With another number than 0 the buffer is as it was, and the length is 0.
  pub refused_left : (number_in number ≡ 0 → ⊥) → (after ≡ before) × (length_in number ≡ 0)
  refused_left other =
      let (buffer, told) = left_of_refusal o before (λ e. other (number_told ∙ ap number_of e)) in
      (hands.1 ∙ buffer, ap length_in hands.0 ∙ unpacked_length (answer_of o) (length_given o) (omega arith) ∙ told)

  -- 0 is a grant.
  pub zero_is_a_grant : IfRefused Refuses o → number_in number ≡ 0 → (text : List ℕ) × (o ≡ Ok text)
  zero_is_a_grant refuses zero = granted_answer o refuses ((zero_exactly_when_granted (answer_of o)).0 (sym number_told ∙ zero))

  -- The length that is taken out, of what the call came to.
  told_of : (x : Outcome (List ℕ)) → o ≡ x → length_in number ≡ length_in (packed (answer_of x) (length_given x))
  told_of x e = ap length_in hands.0 ∙ ap (λ y. length_in (packed (answer_of y) (length_given y))) e

  -- A grant has the number 0, and its text stands in front, as long as it is told.
  module _ (text : List ℕ) (grant : o ≡ Ok text) (short : length text ≤ most_text) where
    pub grant_is_zero : number_in number ≡ 0
    grant_is_zero = number_told ∙ ap number_of (answer_granted o text grant)

    pub length_told : length_in number ≡ length text
    unfolding length_given
    length_told = told_of (Ok text) grant ∙ unpacked_length (answer_of (Ok text)) (length text) (omega arith)

    pub text_in_front : take (length_in number) after ≡ text
    unfolding buffer_left
    text_in_front = rw (length_told, hands.1, grant) (take-append_seam text (drop (length text) before))

  -- Where no text that is granted is longer than the longest, no more is told than that.
  pub told_is_short : ((text : List ℕ) → o ≡ Ok text → length text ≤ most_text) → length_in number ≤ most_text
  unfolding answer_of length_given
  told_is_short short = by o refl
    where
      by : (x : Outcome (List ℕ)) → o ≡ x → length_in number ≤ most_text
      by (Ok text) e = omega (arith, length_told text e (short text e), short text e)
      by (Err answer) e = omega (arith, told_of (Err answer) e ∙ unpacked_length answer 0 (omega arith))

-- What is written is a procap's text, and no longer than the longest.
pub written_is_short : (p : Procap) (room : ℕ) (text : List ℕ) → writing p room ≡ Ok text → length text ≤ most_text
unfolding writing
written_is_short p room text e = went_on _ _ _ e λ u can fit. rw (← fitted _ room text fit) (at_most_1223 p (was_so ProcapMalformed (writable? p) u can))

-- ── Texts ──

-- No refusal of the calls for C has the answer 0.
pub rewriting_refuses : (text : List ℕ) (room : ℕ) → IfRefused Refuses (rewriting text room)
unfolding rewriting
rewriting_refuses text room = go_on_refused Refuses _ _ (reading_refuses text) λ p _. writing_refuses p room

value_refuses : (value : List ℕ) → IfRefused Refuses (value_in value)
unfolding value_in
value_refuses value = by (eqb (length value) value_bytes)
  where
    by : (b : Bool) → IfRefused Refuses (pick b (Ok (value_of value)) (Err ProcapMalformed))
    by true = tt
    by false = omega arith

pub value_writing_refuses : (value : List ℕ) (room : ℕ) → IfRefused Refuses (value_writing value room)
unfolding value_writing
value_writing_refuses value room = go_on_refused Refuses _ _ (value_refuses value) λ p _. writing_refuses p room

-- A text that is rewritten is the one that was read, and is written of the procap that it says.
pub rewritten_from : {C : Type 0} (text : List ℕ) (room : ℕ) (again : List ℕ) → rewriting text room ≡ Ok again
    → ((p : Procap) → again ≡ text → writing p room ≡ Ok again → C) → C
unfolding rewriting reading
rewritten_from text room again e k =
    went_on _ _ _ e λ p reads writes.
    let says = was_there ProcapMalformed (text_in text) p reads in
    let back = was_there ProcapMalformed (text_in again) p (written_is_read p room again writes) in
    k p (one_text_each again text p back says) writes

pub rewriting_is_short : (text : List ℕ) (room : ℕ) (again : List ℕ) → rewriting text room ≡ Ok again → length again ≤ most_text
rewriting_is_short text room again e = rewritten_from text room again e λ p _ writes. written_is_short p room again writes

-- A text that is written of a value is written of the procap that its bytes are.
pub value_written_from : {C : Type 0} (value : List ℕ) (room : ℕ) (text : List ℕ) → value_writing value room ≡ Ok text
    → ((p : Procap) → value_in value ≡ Ok p → writing p room ≡ Ok text → C) → C
unfolding value_writing
value_written_from value room text e k = went_on _ _ _ e k

pub value_writing_is_short : (value : List ℕ) (room : ℕ) (text : List ℕ) → value_writing value room ≡ Ok text → length text ≤ most_text
value_writing_is_short value room text e = value_written_from value room text e λ p _ writes. written_is_short p room text writes

-- ── The office ──

module _ (r : Request) (records buffer pairs proof : List ℕ) where
  pub verifying_refuses : (room : ℕ) → IfRefused Refuses (verifying r records buffer pairs proof room)
  unfolding verifying
  verifying_refuses room = go_on_refused Refuses _ _ (verified_refuses r (records_in records) buffer (pair_numbers pairs) proof) λ p _. writing_refuses p room

  -- A text that verify's call gives is the one that is written of the procap that it issues.
  pub issued_for : {C : Type 0} (room : ℕ) (text : List ℕ) → verifying r records buffer pairs proof room ≡ Ok text
      → ((p : Procap) → verified r (records_in records) buffer (pair_numbers pairs) proof ≡ Ok p → writing p room ≡ Ok text → C) → C
  unfolding verifying
  issued_for room text e k = went_on _ _ _ e k

  pub verifying_is_short : (room : ℕ) (text : List ℕ) → verifying r records buffer pairs proof room ≡ Ok text → length text ≤ most_text
  verifying_is_short room text e = issued_for room text e λ p _ writes. written_is_short p room text writes

  -- The direct check's number is 0 exactly where it accepts.
  pub zero_exactly_when_accepted : (m : ℕ) (state : List ℕ) (number : ℕ) → OfficeDirectGives r records buffer pairs proof m state number
      → (number_in number ≡ 0) ↔ (directly r (records_in records) buffer (pair_numbers pairs) proof m state ≡ Ok tt)
  zero_exactly_when_accepted m state number gives =
      let o = directly r (records_in records) buffer (pair_numbers pairs) proof m state in
      let told = ap number_in gives ∙ unpacked_number (answer_of o) 0 in
      let refuses = directly_refuses r (records_in records) buffer (pair_numbers pairs) proof m state in (
        λ zero. (granted_answer o refuses ((zero_exactly_when_granted (answer_of o)).0 (sym told ∙ zero))).1,
        λ accepts. told ∙ ap number_of (answer_granted o tt accepts),
      )
