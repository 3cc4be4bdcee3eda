-- The three demands, in one place, over what the public calls give back. What is behind them: `Telling` (an answer tells what was decided),
-- `Opening` (an issued procap at the door), `Printed` (what the program prints), and the theorems of `bl`, `text`, `door` and `cases`.
use Prim.Native.Nat.{ℕ, ◌≤◌}
use mathlib.Core.Path.{◌≡◌, sym, ◌∙◌}
use mathlib.Core.List.{List, []}
use Rattle.std.specs.Prelude.{Ok, Some}
use mathlib.Core.Logic.Iff
use mathlib.Core.Logic.{◌↔◌}
use native.Mathlib.Omega.{arith}
use lib.ListN.{length, take}
use Rattle.procap.specs.Lists.{In}
use Rattle.procap.specs.Times.{latest}
use Rattle.procap.specs.Facts.{Spelled}
use Rattle.procap.specs.Procaps.{empty_procap}
use Rattle.procap.specs.Writable.{RequestInForm}
use Rattle.procap.specs.Answers.{number_of, numbers}
use Rattle.procap.specs.Outcome.{Outcome}
use Rattle.procap.specs.States.{stated}
use Rattle.procap.specs.declared.answer.Answer.{Answer}
use Rattle.procap.specs.declared.answer.Answer.TheVariants.{Granted, ProcapMalformed}
use Rattle.procap.specs.declared.procap.Request.{Request}
use Rattle.procap.specs.declared.procap.Procap.{Procap}
use Rattle.procap.proofs.AnswerNumbers.{number_is_listed, listed_is_a_number}
use Rattle.bl.specs.declared.Certificate.{Certificate}
use Rattle.bl.specs.Calls.{directly}
use Rattle.bl.specs.Accepting.{AreBytes, Derivable}
use Rattle.bl.proofs.Theorems.{direct_accepts_exactly_derivations, issued_exactly_where_some_press_is_accepted, issued_can_be_written}
use Rattle.text.specs.Buffers.{most_text}
use Rattle.text.specs.Calls.{Wrote}
use Rattle.text.specs.declared.reader.ReadText.{ReadText}
use Rattle.text.specs.declared.writer.WrittenText.{WrittenText}
use Rattle.text.proofs.Theorems.{written_is_read, read_is_written}
use Rattle.door.proofs.Refusals.{unwritable}
use Rattle.verifier.specs.declared.verify.Verified.{Verified}
use Rattle.cases.specs.Case.{Case, case_in, buffer_of, records_from}
use Rattle.cases.specs.Calls.{printed}
use Rattle.cases.proofs.AlwaysPrinted.{always_printed}
use Rattle.demands.specs.Gives.{VerifyGives, DirectGives, OpenGives, DoorGives, ReadGives, WriteGives, PrintGives, AnsweredSomewhere}
use Rattle.demands.proofs.Telling.{answer_granted, in_front, handed_of_grant, handed_of_refusal, left_of_refusal, accepts_exactly, issues_exactly, somewhere_exactly, reads_exactly, writes_exactly, opens_exactly, lets_in_exactly}
use Rattle.demands.proofs.Opening.{issued_opens_the_door_exactly_where_direct_accepts, issued_is_written, its_text_opens_the_door_exactly_where_direct_accepts}
use Rattle.demands.proofs.Printed.{printed_opens_exactly}

-- ── Demand 1 ──

-- Demand 1. Whatever a blender, a stick or a search tool hands in, every call has an answer to it, and the answer one of fifteen numbers:
-- 0 to 5, 7 to 14 and 21.
pub every_answer_has_a_number : (answer : Answer) → In (number_of answer) numbers
every_answer_has_a_number answer = number_is_listed answer

-- Demand 1. Each of the fifteen is the number of an answer; so no page has to explain 6, which is none.
pub every_number_has_an_answer : (n : ℕ) → In n numbers → (answer : Answer) × (number_of answer ≡ n)
every_number_has_an_answer n listed = listed_is_a_number n listed

-- Demand 1. A blender who is refused at the office walks away with an empty procap.
pub refused_verify_is_empty : (r : Request) (certificates : List Certificate) (buffer pairs proof : List ℕ) (v : Verified)
    → VerifyGives r certificates buffer pairs proof v → (v.answer ≡ Granted → ⊥) → v.procap ≡ empty_procap
refused_verify_is_empty r certificates buffer pairs proof v gives n = gives.procap ∙ handed_of_refusal _ (λ e. n (gives.answer ∙ e))

-- Demand 1. So does one whose text is scribbled on.
pub refused_read_is_empty : (text : List ℕ) (v : ReadText) → ReadGives text v → (v.answer ≡ Granted → ⊥) → v.procap ≡ empty_procap
refused_read_is_empty text v gives n = gives.procap ∙ handed_of_refusal _ (λ e. n (gives.answer ∙ e))

-- Demand 1. And nobody gets a start with the empty procap: the door answers 12 to it, at every press.
pub the_empty_procap_opens_nothing : (r : Request) (m : ℕ) (state : List ℕ) (answer : Answer) → OpenGives empty_procap r m state answer
    → answer ≡ ProcapMalformed
the_empty_procap_opens_nothing r m state answer gives = gives ∙ sym (unwritable empty_procap r m state (λ w. omega (arith, w.version_known)))

-- Demand 1. A call that writes, whatever it came to, leaves the lent buffer as it was where it refuses: the writer of a procap
-- (`WriteGives`), that of a refusal (`WriteRefusalGives`) and the program's work (`PrintGives`). So no blender carries half a text to the
-- desk.
pub refused_write_writes_nothing : (o : Outcome (List ℕ)) (before : List ℕ) (w : WrittenText) (after : List ℕ) → Wrote o before w after
    → (w.answer ≡ Granted → ⊥) → (after ≡ before) × (w.length ≡ 0)
refused_write_writes_nothing o before w after gives n =
    let left = left_of_refusal o before (λ e. n (gives.answer ∙ e)) in
    (gives.buffer ∙ left.0, gives.length_told ∙ left.1)

-- Demand 1. With room for 1,223 bytes the program has an answer printed to whatever a blender brings to the office.
pub every_case_is_answered : (input before : List ℕ) → most_text ≤ length before → (w : WrittenText) (after : List ℕ)
    → PrintGives input before w after → (w.answer ≡ Granted) × (take w.length after ≡ printed input)
every_case_is_answered input before room w after gives =
    let written = always_printed input (length before) room in
    (gives.answer ∙ answer_granted _ _ written, in_front _ (printed input) before w after gives written)

-- ── Demand 2 ──

-- Demand 2. The direct check answers 0 exactly when all that is lent reads and the proof is a derivation by the rules, at that moment in
-- that state: no search tool, however clever or broken, gets a blender's press through that the house's rules do not give.
pub accepted_exactly_when_derived : (r : Request) (certificates : List Certificate) (buffer pairs proof : List ℕ) (m : ℕ) (state : List ℕ) (answer : Answer)
    → DirectGives r certificates buffer pairs proof m state answer
    → (answer ≡ Granted) ↔ Derivable r certificates buffer pairs proof m state
accepted_exactly_when_derived r certificates buffer pairs proof m state answer gives =
    Iff.trans (accepts_exactly r certificates buffer pairs proof m state answer gives)
    (direct_accepts_exactly_derivations r certificates buffer pairs proof m state)

-- Demand 2. What we write reads back the same: the procap that a blender carries to the desk as a text is the one that was issued.
pub what_is_written_reads_back : (p : Procap) (before : List ℕ) (w : WrittenText) (after : List ℕ) → WriteGives p before w after
    → w.answer ≡ Granted → (v : ReadText) → ReadGives (take w.length after) v → (v.answer ≡ Granted) × (v.procap ≡ p)
what_is_written_reads_back p before w after gives granted_it v reads =
    let says = written_is_read p (length before) _ ((writes_exactly p before w after gives).0 granted_it) in
    (reads.answer ∙ answer_granted _ p says, reads.procap ∙ handed_of_grant _ p says)

-- Demand 2. What reads is what we would have written: no other bytes pass for a blender's procap.
pub what_reads_is_what_would_be_written : (text : List ℕ) (v : ReadText) → ReadGives text v → v.answer ≡ Granted
    → (before : List ℕ) → length text ≤ length before → (w : WrittenText) (after : List ℕ) → WriteGives v.procap before w after
    → (w.answer ≡ Granted) × (take w.length after ≡ text)
what_reads_is_what_would_be_written text v gives granted_it before room w after writes =
    let written = read_is_written text v.procap ((reads_exactly text v gives).0 granted_it) (length before) room in
    (writes.answer ∙ answer_granted _ text written, in_front _ text before w after writes written)

-- ── Demand 3 ──

module _ (r : Request) (certificates : List Certificate) (buffer pairs proof : List ℕ) where
  -- Demand 3, the issuing half. Verify answers 0 exactly when some press would be accepted if that proof were checked there: a blender
  -- who may start at some time gets a procap, and nobody else does.
  pub issued_exactly_where_some_press_is_answered : AreBytes buffer → AreBytes proof → (v : Verified) → VerifyGives r certificates buffer pairs proof v
      → (v.answer ≡ Granted) ↔ AnsweredSomewhere r certificates buffer pairs proof
  issued_exactly_where_some_press_is_answered in_bytes proof_in_bytes v gives =
      let somewhere = issued_exactly_where_some_press_is_accepted r certificates buffer pairs proof in_bytes proof_in_bytes in
      let answered = somewhere_exactly r certificates buffer pairs proof in (
        λ e. answered.0 (somewhere.0 (v.procap, (issues_exactly r certificates buffer pairs proof v gives).0 e)),
        λ s. let (p, e) = somewhere.1 (answered.1 s) in gives.answer ∙ answer_granted _ p e,
      )

  module _ (names : RequestInForm r) (in_bytes : AreBytes buffer) (proof_in_bytes : AreBytes proof) (v : Verified)
      (gives : VerifyGives r certificates buffer pairs proof v) (issued : v.answer ≡ Granted) where
    -- Demand 3, the opening half. At every press, whatever was answered at another one: the procap that verify hands over, shown for its
    -- own request, opens the door exactly where the same proof would be accepted if the blender brought it to the desk.
    pub opens_exactly_where_direct_answers : (m : ℕ) → m ≤ latest → (state : List ℕ) (σ : List Spelled) → stated state ≡ Some σ
        → (opened : Answer) → OpenGives v.procap r m state opened
        → (checked : Answer) → DirectGives r certificates buffer pairs proof m state checked
        → (opened ≡ Granted) ↔ (checked ≡ Granted)
    opens_exactly_where_direct_answers m in_range state σ reads opened opens checked checks =
        let e = (issues_exactly r certificates buffer pairs proof v gives).0 issued in
        let can_be_written = issued_can_be_written r certificates buffer pairs proof names in_bytes proof_in_bytes v.procap e in
        let law = issued_opens_the_door_exactly_where_direct_accepts r certificates buffer pairs proof names in_bytes proof_in_bytes v.procap e in
        let at_the_door = opens_exactly v.procap can_be_written r m state opened opens in
        let at_the_check = accepts_exactly r certificates buffer pairs proof m state checked checks in
        Iff.trans at_the_door (Iff.trans (law m in_range state σ reads) (Iff.symm at_the_check))

    -- Demand 3, the way from the office to the desk. What is issued can be written into every buffer with room for 1,223 bytes, so that a
    -- blender who was issued a procap has a text to show.
    pub what_is_issued_is_written : (before : List ℕ) → most_text ≤ length before → (w : WrittenText) (after : List ℕ)
        → WriteGives v.procap before w after → w.answer ≡ Granted
    what_is_issued_is_written before room w after writes =
        let e = (issues_exactly r certificates buffer pairs proof v gives).0 issued in
        let law = issued_is_written r certificates buffer pairs proof names in_bytes proof_in_bytes v.procap e in
        writes.answer ∙ answer_granted _ _ (law (length before) room)

    -- Demand 3, the opening half, for the desk firmware. The text that is written of the procap opens the door exactly where the same proof
    -- would be accepted if the blender brought it to the desk: 0 is what the firmware sees then, and only then.
    pub its_text_opens_exactly_where_direct_answers : (before : List ℕ) (w : WrittenText) (after : List ℕ) → WriteGives v.procap before w after
        → w.answer ≡ Granted → (m : ℕ) → m ≤ latest → (state : List ℕ) (σ : List Spelled) → stated state ≡ Some σ
        → (number : ℕ) → DoorGives (take w.length after) r m state number
        → (checked : Answer) → DirectGives r certificates buffer pairs proof m state checked
        → (number ≡ 0) ↔ (checked ≡ Granted)
    its_text_opens_exactly_where_direct_answers before w after writes written m in_range state σ reads number opens checked checks =
        let e = (issues_exactly r certificates buffer pairs proof v gives).0 issued in
        let given = (writes_exactly v.procap before w after writes).0 written in
        let law = its_text_opens_the_door_exactly_where_direct_accepts r certificates buffer pairs proof names in_bytes proof_in_bytes v.procap e in
        let at_the_door = lets_in_exactly (take w.length after) r m state number opens in
        let at_the_check = accepts_exactly r certificates buffer pairs proof m state checked checks in
        Iff.trans at_the_door (Iff.trans (law (length before) _ given m in_range state σ reads) (Iff.symm at_the_check))

-- Demand 3, from the case to the desk. Whatever the program prints for a case, a procap or a refusal, shown at the door for the case's own
-- request opens it exactly where the case's proof would be accepted if the blender brought it to the desk.
pub what_is_printed_opens_exactly_where_direct_accepts : (input : List ℕ) (c : Case) → case_in input ≡ Ok c
    → (m : ℕ) → m ≤ latest → (state : List ℕ) → AreBytes state → (σ : List Spelled) → stated state ≡ Some σ
    → (number : ℕ) → DoorGives (printed input) c.request m state number
    → (number ≡ 0) ↔ (directly c.request (records_from 0 c.groups) (buffer_of c.groups) [] c.proof m state ≡ Ok tt)
what_is_printed_opens_exactly_where_direct_accepts input c reads m in_range state in_bytes σ states number opens =
    Iff.trans (lets_in_exactly (printed input) c.request m state number opens)
    (printed_opens_exactly input c reads m in_range state in_bytes σ states)
