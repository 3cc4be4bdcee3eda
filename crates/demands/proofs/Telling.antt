-- An answer tells what was decided: no refusal has the answer of a grant, so what answers 0 has granted just what it hands over, and
-- what does not has refused.
use Prim.Native.Nat.{ℕ}
use mathlib.Core.Path.{◌≡◌, refl, sym, ap, ◌∙◌}
use mathlib.Core.List.{List}
use mathlib.Core.Logic.{◌↔◌}
use native.Mathlib.Omega.{arith}
use lib.ListN.{length, take, drop}
use lib.Seq.{take-append_seam}
use Rattle.procap.specs.Procaps.{empty_procap}
use Rattle.procap.specs.Writable.{Writable}
use Rattle.procap.specs.Answers.{number_of}
use Rattle.std.specs.Prelude.{Err, Ok}
use Rattle.procap.specs.Outcome.{Outcome, answer_of, procap_handed}
use Rattle.procap.specs.declared.answer.Answer.{Answer}
use Rattle.procap.specs.declared.answer.Answer.TheVariants.{Granted}
use Rattle.procap.specs.declared.procap.Request.{Request}
use Rattle.procap.specs.declared.procap.Procap.{Procap}
use Rattle.procap.proofs.Granted.{goes_on}
use Rattle.procap.proofs.Refused.{IfRefused, go_on_refused, press_refused}
use Rattle.bl.specs.declared.Certificate.{Certificate}
use Rattle.bl.specs.Calls.{verified, directly}
use Rattle.bl.specs.Accepting.{AreBytes, Somewhere, AcceptedSomewhere}
use Rattle.bl.proofs.Theorems.{direct_accepts_exactly_derivations}
use Rattle.bl.proofs.CallRefusals.{case_refused, run_refused}
use Rattle.text.specs.Text.{text_of}
use Rattle.text.specs.Calls.{reading, writing, length_given, buffer_left, Wrote}
use Rattle.text.specs.declared.reader.ReadText.{ReadText}
use Rattle.text.specs.declared.writer.WrittenText.{WrittenText}
use Rattle.text.proofs.Written.{is_written}
use Rattle.text.proofs.Theorems.{written_is_read}
use Rattle.door.specs.Door.{opening, opening_text, packed}
use Rattle.door.proofs.Answering.{zero_exactly_when_open}
use Rattle.verifier.specs.declared.verify.Verified.{Verified}
use Rattle.cases.proofs.Refusals.{Refuses, verified_refuses, reading_refuses, writing_refuses}
use Rattle.demands.specs.Gives.{VerifyGives, DirectGives, OpenGives, DoorGives, ReadGives, WriteGives, AnsweredSomewhere}

-- ── Outcomes ──

-- What answers 0 is a grant, and a grant answers 0.
pub granted_answer : {A : Type 0} (o : Outcome A) → IfRefused Refuses o → answer_of o ≡ Granted → (a : A) × (o ≡ Ok a)
unfolding answer_of
granted_answer (Ok a) h e = (a, refl)
granted_answer (Err answer) h e = let z : number_of answer ≡ 0 = ap number_of e in absurd (omega arith)

pub answer_granted : {A : Type 0} (o : Outcome A) (a : A) → o ≡ Ok a → answer_of o ≡ Granted
unfolding answer_of
answer_granted o a e = ap answer_of e

-- A grant hands over its procap, and a refusal the empty one.
pub handed_of_grant : (o : Outcome Procap) (p : Procap) → o ≡ Ok p → procap_handed o ≡ p
unfolding procap_handed
handed_of_grant o p e = ap procap_handed e

pub handed_of_refusal : (o : Outcome Procap) → (answer_of o ≡ Granted → ⊥) → procap_handed o ≡ empty_procap
unfolding answer_of procap_handed
handed_of_refusal (Ok p) n = absurd (n refl)
handed_of_refusal (Err answer) n = refl

-- A grant leaves its text at the front of the buffer, and a refusal leaves the buffer as it was and tells no length.
pub in_front : (o : Outcome (List ℕ)) (text before : List ℕ) (w : WrittenText) (after : List ℕ) → Wrote o before w after → o ≡ Ok text
    → take w.length after ≡ text
unfolding length_given buffer_left
in_front o text before w after gives e = rw (gives.length_told, gives.buffer, e) (take-append_seam text (drop (length text) before))

pub left_of_refusal : (o : Outcome (List ℕ)) (buffer : List ℕ) → (answer_of o ≡ Granted → ⊥)
    → (buffer_left o buffer ≡ buffer) × (length_given o ≡ 0)
unfolding answer_of length_given buffer_left
left_of_refusal (Ok text) buffer n = absurd (n refl)
left_of_refusal (Err answer) buffer n = (refl, refl)

-- So an answer tells whether something was granted, and with a procap it tells which.
answer_tells : (o : Outcome (Unit {0})) → IfRefused Refuses o → (answer : Answer) → answer ≡ answer_of o
    → (answer ≡ Granted) ↔ (o ≡ Ok tt)
answer_tells o h answer told = (λ e. (granted_answer o h (sym told ∙ e)).1, λ e. told ∙ answer_granted o tt e)

procap_tells : (o : Outcome Procap) → IfRefused Refuses o → (answer : Answer) (p : Procap) → answer ≡ answer_of o → p ≡ procap_handed o
    → (answer ≡ Granted) ↔ (o ≡ Ok p)
procap_tells o h answer p told handed = (
  λ e. let (q, grant) = granted_answer o h (sym told ∙ e) in rw (handed ∙ handed_of_grant o q grant) grant,
  λ e. told ∙ answer_granted o p e,
)

-- ── The office ──

-- What follows from something at each press is so somewhere where that is.
pub so_there : {P Q : ℕ → List ℕ → Type 0} → ((m : ℕ) (state : List ℕ) → P m state → Q m state) → Somewhere P → Somewhere Q
so_there follows s =
    record {
      moment = s.moment;
      moment_in_range = s.moment_in_range;
      state = s.state;
      state_is_bytes = s.state_is_bytes;
      facts = s.facts;
      state_reads = s.state_reads;
      is_so = follows s.moment s.state s.is_so;
    }

module _ (r : Request) (records : List Certificate) (buffer pairs proof : List ℕ) where
  -- No refusal of the direct check has the answer 0.
  pub directly_refuses : (m : ℕ) (state : List ℕ) → IfRefused Refuses (directly r records buffer pairs proof m state)
  unfolding directly
  directly_refuses m state =
      go_on_refused Refuses _ _ (case_refused Refuses (λ i. omega arith) (omega arith) (omega arith) records buffer pairs proof) λ x _.
      go_on_refused Refuses _ _ (press_refused Refuses (omega arith) (omega arith) m state) λ σ _.
      go_on_refused Refuses _ _ (run_refused Refuses (λ q. omega arith) (λ q. omega arith) (λ q. omega arith) _ _ _) λ w _.
      tt

module _ (r : Request) (certificates : List Certificate) (buffer pairs proof : List ℕ) where
  -- A press that is accepted has a moment in range and a state that is well formed: it is one somewhere.
  pub accepted_there : (m : ℕ) (state : List ℕ) → AreBytes state → directly r certificates buffer pairs proof m state ≡ Ok tt
      → AcceptedSomewhere r certificates buffer pairs proof
  accepted_there m state in_bytes accepts =
      let derived = (direct_accepts_exactly_derivations r certificates buffer pairs proof m state).0 accepts in
      record {
        moment = m;
        moment_in_range = derived.moment_in_range;
        state = state;
        state_is_bytes = in_bytes;
        facts = derived.facts;
        state_reads = derived.state_reads;
        is_so = accepts;
      }

  -- The direct check answers 0 exactly when it accepts.
  pub accepts_exactly : (m : ℕ) (state : List ℕ) (answer : Answer) → DirectGives r certificates buffer pairs proof m state answer
      → (answer ≡ Granted) ↔ (directly r certificates buffer pairs proof m state ≡ Ok tt)
  accepts_exactly m state answer gives = answer_tells _ (directly_refuses r certificates buffer pairs proof m state) answer gives

  -- Verify answers 0 exactly when it issues the procap that it hands over.
  pub issues_exactly : (v : Verified) → VerifyGives r certificates buffer pairs proof v
      → (v.answer ≡ Granted) ↔ (verified r certificates buffer pairs proof ≡ Ok v.procap)
  issues_exactly v gives =
      procap_tells _ (verified_refuses r certificates buffer pairs proof) v.answer v.procap gives.answer gives.procap

  -- A press that is accepted is one at which the direct check answers 0.
  pub somewhere_exactly : AcceptedSomewhere r certificates buffer pairs proof ↔ AnsweredSomewhere r certificates buffer pairs proof
  somewhere_exactly = (
    so_there (λ m state accepts. sym (answer_granted _ tt accepts)),
    so_there (λ m state answers. (accepts_exactly m state Granted answers).0 refl),
  )

-- ── Texts ──

-- The reader answers 0 exactly when the text says the procap that it hands over.
pub reads_exactly : (text : List ℕ) (v : ReadText) → ReadGives text v → (v.answer ≡ Granted) ↔ (reading text ≡ Ok v.procap)
reads_exactly text v gives = procap_tells _ (reading_refuses text) v.answer v.procap gives.answer gives.procap

module _ (p : Procap) (before : List ℕ) (w : WrittenText) (after : List ℕ) (gives : WriteGives p before w after) where
  -- The writer answers 0 exactly when it gives what stands there.
  pub writes_exactly : (w.answer ≡ Granted) ↔ (writing p (length before) ≡ Ok (take w.length after))
  writes_exactly = (
    λ e.
        let (text, grant) = granted_answer _ (writing_refuses p (length before)) (sym gives.answer ∙ e) in
        rw (in_front _ text before w after gives grant) grant,
    λ e. gives.answer ∙ answer_granted _ _ e,
  )

-- ── The door ──

-- To a procap that can be written the door answers 0 exactly when it opens: what it answers to the procap's text, it answers to the procap.
pub opens_exactly : (p : Procap) → Writable p → (r : Request) (m : ℕ) (state : List ℕ) (answer : Answer) → OpenGives p r m state answer
    → (answer ≡ Granted) ↔ (opening p r m state ≡ Ok tt)
unfolding opening_text
opens_exactly p w r m state answer gives =
    let says = written_is_read p _ (text_of p) (is_written p (length (text_of p)) w (omega arith)) in
    let same = goes_on (reading (text_of p)) (λ q. opening q r m state) p says in
    let zero = rw same at (zero_exactly_when_open (text_of p) r m state) in
    (λ e. zero.0 (ap packed (sym gives ∙ e)), λ e. gives ∙ answer_granted _ tt e)

-- The firmware sees 0 exactly when the door opens to the text.
pub lets_in_exactly : (text : List ℕ) (r : Request) (m : ℕ) (state : List ℕ) (number : ℕ) → DoorGives text r m state number
    → (number ≡ 0) ↔ (opening_text text r m state ≡ Ok tt)
lets_in_exactly text r m state number gives = rw gives (zero_exactly_when_open text r m state)
