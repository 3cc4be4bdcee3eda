-- The demands once more, in the numbers and places that a caller from C, or who reads what the program prints, sees. 0 is the number of a
-- grant and of nothing else, so each follows from what the calls come to (`FromC`), and holds at every press, whatever its moment and its
-- state.
use Prim.Native.Nat.{ℕ, ◌/◌, ◌%◌, ◌≤◌, ◌<◌}
use mathlib.Core.Path.{◌≡◌, refl, sym, ap, ◌∙◌}
use mathlib.Core.List.{List, []}
use Rattle.std.specs.Prelude.{Err, Ok, Some}
use mathlib.Core.Logic.Iff
use mathlib.Core.Logic.{◌↔◌, ◌⊎◌, inl, inr}
use native.Mathlib.Omega.{arith}
use lib.ListN.{length, take}
use Rattle.procap.specs.Lists.{In}
use Rattle.procap.specs.Times.{latest}
use Rattle.procap.specs.Facts.{Spelled}
use Rattle.procap.specs.Procaps.{most_facts}
use Rattle.procap.specs.Writable.{RequestInForm}
use Rattle.procap.specs.Answers.{number_of, place_of, numbers}
use Rattle.procap.specs.Outcome.{Outcome, answer_of}
use Rattle.procap.specs.States.{stated}
use Rattle.procap.specs.declared.answer.Answer.{Answer}
use Rattle.procap.specs.declared.procap.Request.{Request}
use Rattle.procap.specs.declared.procap.Procap.{Procap}
use Rattle.procap.proofs.AnswerNumbers.{number_is_listed, zero_exactly_when_granted}
use Rattle.procap.proofs.Granted.{goes_on}
use Rattle.procap.proofs.Refused.{IfRefused}
use Rattle.bl.specs.Calls.{verified}
use Rattle.bl.specs.Accepting.{AreBytes, Derivable, AcceptedSomewhere}
use Rattle.bl.proofs.Theorems.{direct_accepts_exactly_derivations, issued_exactly_where_some_press_is_accepted}
use Rattle.text.specs.Text.{text_of, refusal_text}
use Rattle.text.specs.Buffers.{most_text}
use Rattle.text.specs.Calls.{reading, writing}
use Rattle.text.proofs.Theorems.{written_is_read, read_is_written}
use Rattle.door.specs.Door.{opening_text}
use Rattle.door.proofs.Answering.{places_are_small}
use Rattle.cases.specs.Case.{Case, case_in, buffer_of, records_from}
use Rattle.cases.specs.Calls.{checked, printed_of, printed}
use Rattle.cases.proofs.AlwaysPrinted.{printed_is_short, always_printed}
use Rattle.cases.proofs.Refusals.{Refuses, checked_refuses}
use Rattle.from_c.specs.Records.{records_in}
use Rattle.from_c.specs.Pairs.{pair_numbers}
use Rattle.from_c.specs.Packing.{HandsBack, number_in, length_in}
use Rattle.from_c.specs.Values.{value_in}
use Rattle.from_c.specs.Calls.{verifying, rewriting}
use Rattle.demands.specs.Gives.{DirectGives, DoorGives, OfficeVerifyGives, OfficeDirectGives, OfficePrintGives, OfficeRewriteGives, OfficeWriteGives, ZeroSomewhere}
use Rattle.demands.proofs.Telling.{so_there, accepted_there, accepts_exactly, lets_in_exactly}
use Rattle.demands.proofs.Opening.{issued_is_written, its_text_opens_the_door_at_the_same_presses}
use Rattle.demands.proofs.Demands.{what_is_printed_opens_exactly_where_direct_accepts}
use Rattle.demands.proofs.FromC.{rewritten_from, value_written_from, rewriting_refuses, value_writing_refuses, number_told, refused_left, zero_is_a_grant, grant_is_zero, length_told, text_in_front, written_is_short, verifying_refuses, issued_for, zero_exactly_when_accepted}

-- ── Demand 1 ──

-- What the firmware takes out of what it sees are the number and the place of the door's answer: one of the numbers that there are, and a
-- place below 16.
module _ (text : List ℕ) (r : Request) (m : ℕ) (state : List ℕ) (pressed : ℕ) (gives : DoorGives text r m state pressed) where
  pub the_door_hands_back_number_and_place : let answer = answer_of (opening_text text r m state) in
      (pressed / 256 ≡ number_of answer) × (pressed % 256 ≡ place_of answer)
  the_door_hands_back_number_and_place =
      let small = places_are_small text r m state in
      (omega (arith, gives), omega (arith, gives))

  pub the_door_hands_back_a_number : In (pressed / 256) numbers × (pressed % 256 < most_facts)
  the_door_hands_back_a_number =
      let (number, place) = the_door_hands_back_number_and_place in
      (rw number (number_is_listed (answer_of (opening_text text r m state))), rw place (places_are_small text r m state))

-- A call that writes hands back one of the numbers that there are; with any other than 0 it has written nothing.
pub a_call_that_writes_hands_back_a_number : (o : Outcome (List ℕ)) (before : List ℕ) (number : ℕ) (after : List ℕ) → HandsBack o before number after
    → In (number_in number) numbers × ((number_in number ≡ 0 → ⊥) → (after ≡ before) × (length_in number ≡ 0))
a_call_that_writes_hands_back_a_number o before number after hands =
    (rw (number_told o before number after hands) (number_is_listed (answer_of o)), refused_left o before number after hands)

-- What the program prints for an input is the text of the procap that it comes to, or the number and the place of the answer that refuses
-- it: a number that there is, and not 0.
pub record PrintsRefusal (input : List ℕ) : Type 0 where
  pub answer : Answer
  pub refuses : checked input ≡ Err answer
  pub prints : printed input ≡ refusal_text answer
  pub is_a_number : In (number_of answer) numbers
  pub not_zero : 0 < number_of answer

pub the_program_prints_a_procap_or_a_refusal : (input : List ℕ)
    → ((p : Procap) × (checked input ≡ Ok p) × (printed input ≡ text_of p)) ⊎ PrintsRefusal input
unfolding printed printed_of
the_program_prints_a_procap_or_a_refusal input = by (checked input) refl (checked_refuses input)
  where
    by : (o : Outcome Procap) → checked input ≡ o → IfRefused Refuses o
        → ((p : Procap) × (checked input ≡ Ok p) × (printed input ≡ text_of p)) ⊎ PrintsRefusal input
    by (Ok p) e _ = inl (p, e, ap printed_of e)
    by (Err answer) e not_zero =
        inr (record { answer = answer; refuses = e; prints = ap printed_of e; is_a_number = number_is_listed answer; not_zero = not_zero })

-- With room for 1,223 bytes the number is 0, whatever the input, and what is printed stands in front.
pub every_case_is_answered_with_0 : (input before : List ℕ) → most_text ≤ length before → (number : ℕ) (after : List ℕ)
    → OfficePrintGives input before number after → (number_in number ≡ 0) × (take (length_in number) after ≡ printed input)
every_case_is_answered_with_0 input before room number after gives =
    let grant = always_printed input (length before) room in
    let short = printed_is_short input in
    (grant_is_zero _ before number after gives (printed input) grant short, text_in_front _ before number after gives (printed input) grant short)

-- ── Demand 2 ──

-- The number of the direct check is 0 exactly when all that is lent reads and the proof is a derivation, at that moment in that state.
pub direct_has_0_exactly_when_derived : (r : Request) (records buffer pairs proof : List ℕ) (m : ℕ) (state : List ℕ) (number : ℕ)
    → OfficeDirectGives r records buffer pairs proof m state number → (number_in number ≡ 0) ↔ Derivable r (records_in records) buffer (pair_numbers pairs) proof m state
direct_has_0_exactly_when_derived r records buffer pairs proof m state number gives =
    Iff.trans (zero_exactly_when_accepted r records buffer pairs proof m state number gives)
    (direct_accepts_exactly_derivations r (records_in records) buffer (pair_numbers pairs) proof m state)

-- What reads is what would have been written: bytes that are rewritten with 0 stand in front of the buffer as they were.
pub what_reads_is_rewritten : (text before : List ℕ) (number : ℕ) (after : List ℕ) → OfficeRewriteGives text before number after → number_in number ≡ 0
    → take (length_in number) after ≡ text
what_reads_is_rewritten text before number after gives zero =
    let (again, grant) = zero_is_a_grant _ before number after gives (rewriting_refuses text (length before)) zero in
    rewritten_from text (length before) again grant λ p same writes.
    text_in_front _ before number after gives again grant (written_is_short p (length before) again writes) ∙ same

-- What we write reads back the same: the text that is written of a value with 0 says that value, and is rewritten with 0 where there is
-- room for it.
module _ (value before : List ℕ) (number : ℕ) (after : List ℕ) (gives : OfficeWriteGives value before number after) (zero : number_in number ≡ 0) where
  pub what_is_written_says_the_value : reading (take (length_in number) after) ≡ value_in value
  what_is_written_says_the_value =
      let (text, grant) = zero_is_a_grant _ before number after gives (value_writing_refuses value (length before)) zero in
      value_written_from value (length before) text grant λ p is writes.
      let front = text_in_front _ before number after gives text grant (written_is_short p (length before) text writes) in
      ap reading front ∙ written_is_read p (length before) text writes ∙ sym is

  pub what_is_written_is_rewritten : (before' : List ℕ) → length_in number ≤ length before' → (number' : ℕ) (after' : List ℕ)
      → OfficeRewriteGives (take (length_in number) after) before' number' after' → number_in number' ≡ 0
  unfolding rewriting
  what_is_written_is_rewritten before' room number' after' rewrites =
      let (text, grant) = zero_is_a_grant _ before number after gives (value_writing_refuses value (length before)) zero in
      value_written_from value (length before) text grant λ p is writes.
      let short = written_is_short p (length before) text writes in
      let front = text_in_front _ before number after gives text grant short in
      let says = written_is_read p (length before) text writes in
      let as_long = length_told _ before number after gives text grant short in
      let again = goes_on _ _ p says ∙ read_is_written text p says (length before') (omega (arith, as_long)) in
      grant_is_zero _ before' number' after' (rw front at rewrites) text again short

-- ── Demand 3 ──

module _ (r : Request) (records buffer pairs proof : List ℕ) where
  -- A press that is accepted somewhere is one at which the number of the direct check is 0.
  zero_somewhere_exactly : AcceptedSomewhere r (records_in records) buffer (pair_numbers pairs) proof ↔ ZeroSomewhere r records buffer pairs proof
  zero_somewhere_exactly =
      let exactly = zero_exactly_when_accepted r records buffer pairs proof in (
        so_there (λ m state accepts. (_, refl, (exactly m state _ refl).1 accepts)),
        so_there (λ m state so. (exactly m state so.0 so.1).0 so.2),
      )

  module _ (names : RequestInForm r) (in_bytes : AreBytes buffer) (proof_in_bytes : AreBytes proof) (before : List ℕ) (room : most_text ≤ length before)
      (number : ℕ) (after : List ℕ) (gives : OfficeVerifyGives r records buffer pairs proof before number after) where
    -- The text of the procap that is issued, where the number is 0.
    issued_text : {C : Type 0} → number_in number ≡ 0
        → ((p : Procap) → verified r (records_in records) buffer (pair_numbers pairs) proof ≡ Ok p → (text : List ℕ) → writing p (length before) ≡ Ok text
        → take (length_in number) after ≡ text → C) → C
    issued_text zero k =
        let (text, grant) = zero_is_a_grant _ before number after gives (verifying_refuses r records buffer pairs proof (length before)) zero in
        issued_for r records buffer pairs proof (length before) text grant λ p issued writes.
        k p issued text writes (text_in_front _ before number after gives text grant (written_is_short p (length before) text writes))

    -- The issuing half: verify's number is 0 exactly when the direct check's is 0 at some moment in range in some well-formed state.
    pub issued_with_0_exactly_where_some_press_has_0 : (number_in number ≡ 0) ↔ ZeroSomewhere r records buffer pairs proof
    unfolding verifying
    issued_with_0_exactly_where_some_press_has_0 =
        let somewhere = issued_exactly_where_some_press_is_accepted r (records_in records) buffer (pair_numbers pairs) proof in_bytes proof_in_bytes in (
          λ zero. issued_text zero λ p issued _ _ _. zero_somewhere_exactly.0 (somewhere.0 (p, issued)),
          λ z.
              let (p, issued) = somewhere.1 (zero_somewhere_exactly.1 z) in
              let written = issued_is_written r (records_in records) buffer (pair_numbers pairs) proof names in_bytes proof_in_bytes p issued (length before) room in
              grant_is_zero _ before number after gives (text_of p) (goes_on _ _ p issued ∙ written) (written_is_short p (length before) (text_of p) written),
        )

    -- The opening half: the text that verify leaves with 0, shown for its own request, is answered 0 by the door exactly where the direct
    -- check's number is 0, at every press.
    pub opens_with_0_exactly_where_direct_has_0 : number_in number ≡ 0 → (m : ℕ) (state : List ℕ)
        → (pressed : ℕ) → DoorGives (take (length_in number) after) r m state pressed
        → (checked : ℕ) → OfficeDirectGives r records buffer pairs proof m state checked
        → (pressed ≡ 0) ↔ (number_in checked ≡ 0)
    opens_with_0_exactly_where_direct_has_0 zero m state pressed opens checked checks =
        issued_text zero λ p issued text writes front.
        let law = its_text_opens_the_door_at_the_same_presses r (records_in records) buffer (pair_numbers pairs) proof names in_bytes proof_in_bytes p issued in
        Iff.trans (lets_in_exactly text r m state pressed (rw front at opens))
        (Iff.trans (law (length before) text writes m state) (Iff.symm (zero_exactly_when_accepted r records buffer pairs proof m state checked checks)))

    -- Where verify's number is another, nothing is accepted: the direct check's number is never 0.
    pub refused_has_0_nowhere : (number_in number ≡ 0 → ⊥) → (m : ℕ) (state : List ℕ) → AreBytes state
        → (checked : ℕ) → OfficeDirectGives r records buffer pairs proof m state checked → number_in checked ≡ 0 → ⊥
    refused_has_0_nowhere other m state state_in_bytes checked checks zero =
        let accepts = (zero_exactly_when_accepted r records buffer pairs proof m state checked checks).0 zero in
        other (issued_with_0_exactly_where_some_press_has_0.1 (zero_somewhere_exactly.0 (accepted_there _ _ _ _ _ m state state_in_bytes accepts)))

-- From the case to the desk: whatever the program prints for a case, shown at the door for the case's own request, is answered 0 exactly
-- where the number of the direct check of that case is 0.
pub what_is_printed_opens_with_0_exactly_where_direct_has_0 : (input : List ℕ) (c : Case) → case_in input ≡ Ok c
    → (m : ℕ) → m ≤ latest → (state : List ℕ) → AreBytes state → (σ : List Spelled) → stated state ≡ Some σ
    → (pressed : ℕ) → DoorGives (printed input) c.request m state pressed
    → (checked : Answer) → DirectGives c.request (records_from 0 c.groups) (buffer_of c.groups) [] c.proof m state checked
    → (pressed ≡ 0) ↔ (number_of checked ≡ 0)
what_is_printed_opens_with_0_exactly_where_direct_has_0 input c reads m in_range state in_bytes σ states pressed opens checked checks =
    Iff.trans (what_is_printed_opens_exactly_where_direct_accepts input c reads m in_range state in_bytes σ states pressed opens)
    (Iff.trans (Iff.symm (accepts_exactly _ _ _ _ _ m state checked checks)) (Iff.symm (zero_exactly_when_granted checked)))
