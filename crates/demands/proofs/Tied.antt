-- The contract of each public call, as the prover has it, is held to the words of `Gives`: the two are equal by computation, so that a
-- contract that says less or more, or that asks something of its caller, is refused here. The exports for C repeat these contracts, word for
-- word: tests/exports.sh holds them to it.
use mathlib.Core.Path.{◌≡◌, refl}
use mathlib.Core.Logic.{◌↔◌}
use seplogic.Ra.Ura.{Ura}
use base.Logic.{SProp, emp}
use prog.Memory.{Memory}
use prog.Routine.{Routine}
use types.Logic.{Logic}
use contract.Monad.{Fun, fact}
use contract.Notation.{connectives}
use contract.Lifetimes.{Lfts}
use denote.Triple.Entry.{Args, Res}
use denote.Triple.Clauses.{Ended, ClausesAt, AtExit}
use Rattle.procap.specs.Procaps.{request_of}
use Rattle.procap.specs.Outcome.{Outcome, answer_of, procap_handed}
use Rattle.procap.specs.declared.answer.Answer.{Answer}
use Rattle.procap.specs.declared.procap.Procap.{Procap}
use Rattle.verifier.specs.contracts.verify.verify as verify
use Rattle.verifier.specs.contracts.verify.direct as direct
use Rattle.text.specs.contracts.reader.read_text as read-text
use Rattle.text.specs.contracts.writer.write_text as write-text
use Rattle.text.specs.contracts.writer.write_refusal as write-refusal
use Rattle.door.specs.contracts.on_value.open as open-value
use Rattle.door.specs.contracts.on_text.procap_door as door
use Rattle.cases.specs.contracts.answering.answer_case as answer-case
use Rattle.from_c.specs.contracts.office.office_verify as office-verify
use Rattle.from_c.specs.contracts.office.office_direct as office-direct
use Rattle.from_c.specs.contracts.office.office_answer_case as office-answer-case
use Rattle.from_c.specs.contracts.office.office_rewrite as office-rewrite
use Rattle.from_c.specs.contracts.office.office_write as office-write
use Rattle.from_c.specs.contracts.desk.desk_door_on_value as desk-door-on-value
use Rattle.from_c.specs.contracts.desk.desk_presses as desk-presses
use Rattle.demands.specs.Gives.{GivesProcap, VerifyGives, DirectGives, OpenGives, DoorGives, ReadGives, WriteGives, WriteRefusalGives, PrintGives, OfficeVerifyGives, OfficeDirectGives, OfficePrintGives, OfficeRewriteGives, OfficeWriteGives, DeskOpenGives, DeskPressesGives}

-- An answer and a procap, in two clauses, are what is handed over; and two clauses may be the two halves of what is promised.
both_handed_over : {o : Outcome Procap} {answer : Answer} {procap : Procap}
    → ((answer ≡ answer_of o) × (procap ≡ procap_handed o)) ↔ GivesProcap o answer procap
both_handed_over = (λ both. record { answer = both.0; procap = both.1 }, λ hands. (hands.answer, hands.procap))

halves : {P Q : Type 0} → (P × Q) ↔ (P × Q)
halves = (λ both. both, λ both. both)

module _ {M : Type 1} {𝓤 : Ura M} (𝓛 : Logic 𝓤) (mem : Memory → SProp 𝓤) (run : Routine → Fun 𝓤) where
  -- A call asks nothing of who makes it, and promises this of what it hands back and of what it leaves.
  abbrev pub Promises : {T : Ended} {κs : Lfts T.signature.lifetimes} → ClausesAt 𝓤 T κs → (Res T.signature κs → AtExit T κs → Type 0) → Type 2
  Promises c P = (c.requires ≡ λ _. emp 𝓤) × (c.ensures ≡ λ _ r left. fact 𝓤 (P r left))

  -- The same of a contract of two clauses, which together say this.
  pub record PromisesBoth {T : Ended} {κs : Lfts T.signature.lifetimes} (c : ClausesAt 𝓤 T κs) (P : Res T.signature κs → AtExit T κs → Type 0) : Type 2 where
    pub one : Res T.signature κs → AtExit T κs → Type 0
    pub other : Res T.signature κs → AtExit T κs → Type 0
    pub asks_nothing : c.requires ≡ λ _. emp 𝓤
    pub promises : c.ensures ≡ λ _ r left. (connectives 𝓤).◌∗◌ (fact 𝓤 (one r left)) (fact 𝓤 (other r left))
    pub both : (r : Res T.signature κs) (left : AtExit T κs) → (one r left × other r left) ↔ P r left

  -- ── The office ──

  pub verify_tied : (κs : Lfts 4) (a : Args verify.signature κs)
      → PromisesBoth (verify.clauses 𝓛 mem run κs a) λ v _. VerifyGives a.0 a.1.0.now a.1.1.0.now a.1.1.1.0.now a.1.1.1.1.0.now v
  verify_tied κs a = record { one = _; other = _; asks_nothing = refl; promises = refl; both = λ _ _. both_handed_over }

  pub direct_tied : (κs : Lfts 5) (a : Args direct.signature κs)
      → Promises (direct.clauses 𝓛 mem run κs a) λ answer _.
      DirectGives a.0 a.1.0.now a.1.1.0.now a.1.1.1.0.now a.1.1.1.1.0.now a.1.1.1.1.1.0 a.1.1.1.1.1.1.0.now answer
  direct_tied κs a = (refl, refl)

  pub answer_case_tied : (κs : Lfts 2) (a : Args answer-case.signature κs)
      → Promises (answer-case.clauses 𝓛 mem run κs a) λ w left. PrintGives a.0.now a.1.0.now w left.1.0.now
  answer_case_tied κs a = (refl, refl)

  -- ── Texts ──

  pub read_text_tied : (κs : Lfts 1) (a : Args read-text.signature κs) → PromisesBoth (read-text.clauses 𝓛 mem run κs a) λ v _. ReadGives a.0.now v
  read_text_tied κs a = record { one = _; other = _; asks_nothing = refl; promises = refl; both = λ _ _. both_handed_over }

  pub write_text_tied : (κs : Lfts 1) (a : Args write-text.signature κs)
      → Promises (write-text.clauses 𝓛 mem run κs a) λ w left. WriteGives a.0 a.1.0.now w left.1.0.now
  write_text_tied κs a = (refl, refl)

  pub write_refusal_tied : (κs : Lfts 1) (a : Args write-refusal.signature κs)
      → Promises (write-refusal.clauses 𝓛 mem run κs a) λ w left. WriteRefusalGives a.0 a.1.0.now w left.1.0.now
  write_refusal_tied κs a = (refl, refl)

  -- ── The door ──

  pub open_tied : (κs : Lfts 1) (a : Args open-value.signature κs)
      → Promises (open-value.clauses 𝓛 mem run κs a) λ answer _. OpenGives a.0 a.1.0 a.1.1.0 a.1.1.1.0.now answer
  open_tied κs a = (refl, refl)

  pub door_tied : (κs : Lfts 2) (a : Args door.signature κs)
      → Promises (door.clauses 𝓛 mem run κs a) λ number _.
      DoorGives a.0.now (request_of a.1.0 a.1.1.0 a.1.1.1.0) a.1.1.1.1.0 a.1.1.1.1.1.0.now number
  door_tied κs a = (refl, refl)

  -- ── The calls for C ──

  pub office_verify_tied : (κs : Lfts 5) (a : Args office-verify.signature κs)
      → PromisesBoth (office-verify.clauses 𝓛 mem run κs a) λ number left.
      OfficeVerifyGives (request_of a.0 a.1.0 a.1.1.0) a.1.1.1.0.now a.1.1.1.1.0.now a.1.1.1.1.1.0.now
      a.1.1.1.1.1.1.0.now a.1.1.1.1.1.1.1.0.now number left.1.1.1.1.1.1.1.0.now
  office_verify_tied κs a = record { one = _; other = _; asks_nothing = refl; promises = refl; both = λ _ _. halves }

  pub office_direct_tied : (κs : Lfts 5) (a : Args office-direct.signature κs)
      → Promises (office-direct.clauses 𝓛 mem run κs a) λ number _.
      OfficeDirectGives (request_of a.0 a.1.0 a.1.1.0) a.1.1.1.0.now a.1.1.1.1.0.now a.1.1.1.1.1.0.now
      a.1.1.1.1.1.1.0.now a.1.1.1.1.1.1.1.0 a.1.1.1.1.1.1.1.1.0.now number
  office_direct_tied κs a = (refl, refl)

  pub office_answer_case_tied : (κs : Lfts 2) (a : Args office-answer-case.signature κs)
      → PromisesBoth (office-answer-case.clauses 𝓛 mem run κs a) λ number left. OfficePrintGives a.0.now a.1.0.now number left.1.0.now
  office_answer_case_tied κs a = record { one = _; other = _; asks_nothing = refl; promises = refl; both = λ _ _. halves }

  pub office_rewrite_tied : (κs : Lfts 2) (a : Args office-rewrite.signature κs)
      → PromisesBoth (office-rewrite.clauses 𝓛 mem run κs a) λ number left. OfficeRewriteGives a.0.now a.1.0.now number left.1.0.now
  office_rewrite_tied κs a = record { one = _; other = _; asks_nothing = refl; promises = refl; both = λ _ _. halves }

  pub office_write_tied : (κs : Lfts 2) (a : Args office-write.signature κs)
      → PromisesBoth (office-write.clauses 𝓛 mem run κs a) λ number left. OfficeWriteGives a.0.now a.1.0.now number left.1.0.now
  office_write_tied κs a = record { one = _; other = _; asks_nothing = refl; promises = refl; both = λ _ _. halves }

  pub desk_door_on_value_tied : (κs : Lfts 2) (a : Args desk-door-on-value.signature κs)
      → Promises (desk-door-on-value.clauses 𝓛 mem run κs a) λ number _.
      DeskOpenGives a.0.now (request_of a.1.0 a.1.1.0 a.1.1.1.0) a.1.1.1.1.0 a.1.1.1.1.1.0.now number
  desk_door_on_value_tied κs a = (refl, refl)

  pub desk_presses_tied : (κs : Lfts 2) (a : Args desk-presses.signature κs)
      → Promises (desk-presses.clauses 𝓛 mem run κs a) λ opened _.
      DeskPressesGives a.0.now (request_of a.1.0 a.1.1.0 a.1.1.1.0) a.1.1.1.1.0 a.1.1.1.1.1.0.now
      a.1.1.1.1.1.1.0 opened
  desk_presses_tied κs a = (refl, refl)
