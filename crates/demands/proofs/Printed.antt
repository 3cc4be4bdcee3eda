-- What is printed for a case, shown at the door: the text of an issued procap opens where the proof is accepted; a refusal is no text and
-- opens nothing, and where verify refuses, no press is accepted.
use Prim.Native.Nat.{ℕ, ◌≤◌}
use mathlib.Core.Path.{◌≡◌, refl, sym, ap, ◌∙◌}
use mathlib.Core.List.{List, []}
use Rattle.std.specs.Prelude.{Err, Ok, Some}
use mathlib.Core.Logic.{◌↔◌}
use native.Mathlib.Omega.{arith}
use Prim.Native.Char.{code}
use lib.ListN.{get_or}
use Rattle.procap.specs.Times.{latest}
use Rattle.procap.specs.Facts.{Spelled}
use Rattle.procap.specs.Outcome.{Outcome}
use Rattle.procap.specs.States.{stated}
use Rattle.procap.specs.declared.answer.Answer.{Answer}
use Rattle.procap.specs.declared.answer.Answer.TheVariants.{ProcapMalformed}
use Rattle.procap.specs.declared.procap.Request.{Request}
use Rattle.procap.specs.declared.procap.Procap.{Procap}
use Rattle.procap.proofs.Granted.{no_grant, went_on, was_there}
use Rattle.bl.specs.Calls.{directly}
use Rattle.bl.specs.Accepting.{AreBytes}
use Rattle.bl.proofs.Theorems.{issued_exactly_where_some_press_is_accepted}
use Rattle.text.specs.Text.{line, text_of, refusal_text}
use Rattle.text.specs.Buffers.{most_text}
use Rattle.text.specs.Reader.{text_in}
use Rattle.text.specs.Calls.{reading}
use Rattle.text.proofs.Theorems.{what_reads_is_written}
use Rattle.door.specs.Door.{opening_text}
use Rattle.cases.specs.Case.{Case, case_in, buffer_of, records_from}
use Rattle.cases.specs.Calls.{printed_of, printed}
use Rattle.cases.proofs.CasesInForm.{case_in_form}
use Rattle.cases.proofs.Printables.{verified_of}
use Rattle.cases.proofs.CasesAnswered.{case_printed}
use Rattle.demands.proofs.Telling.{accepted_there}
use Rattle.demands.proofs.Opening.{issued_is_written, its_text_opens_the_door_exactly_where_direct_accepts}

-- A refusal's two lines are no procap text: every text is what is written of its procap, and begins with another letter.
refusal_is_no_text : (answer : Answer) (p : Procap) → text_in (refusal_text answer) ≡ Some p → ⊥
unfolding text_of refusal_text line
refusal_is_no_text answer p e =
    let letters : code "p" ≡ code "r" = ap (λ bytes. get_or bytes 0 0) (what_reads_is_written (refusal_text answer) p e).1 in
    omega arith

-- So it opens nothing.
refusal_stays_shut : (answer : Answer) (r : Request) (m : ℕ) (state : List ℕ) → opening_text (refusal_text answer) r m state ≡ Ok tt → ⊥
unfolding opening_text reading
refusal_stays_shut answer r m state e =
    went_on _ _ _ e λ p reads _. refusal_is_no_text answer p (was_there ProcapMalformed (text_in (refusal_text answer)) p reads)

module _ (input : List ℕ) (c : Case) (reads : case_in input ≡ Ok c) (m : ℕ) (in_range : m ≤ latest) (state : List ℕ) (in_bytes : AreBytes state)
    (σ : List Spelled) (states : stated state ≡ Some σ) where
  -- What is accepted of the case, where it is checked at the desk.
  abbrev Accepted : Type 0
  Accepted = directly c.request (records_from 0 c.groups) (buffer_of c.groups) [] c.proof m state ≡ Ok tt

  -- A case that verify refuses is accepted nowhere.
  refused_is_accepted_nowhere : (answer : Answer) → verified_of c ≡ Err answer → Accepted → ⊥
  refused_is_accepted_nowhere answer e accepted =
      let (_, formulas-in-bytes, proof_in_bytes) = case_in_form input c reads in
      let somewhere = issued_exactly_where_some_press_is_accepted _ _ _ _ _ formulas-in-bytes proof_in_bytes in
      let (p, issued) = somewhere.1 (accepted_there _ _ _ _ _ m state in_bytes accepted) in
      no_grant (sym e ∙ issued)

  -- What is printed of what verify comes to opens the door exactly where the case is accepted.
  opens_exactly : (o : Outcome Procap) → verified_of c ≡ o → (opening_text (printed_of o) c.request m state ≡ Ok tt) ↔ Accepted
  unfolding printed_of
  opens_exactly (Ok p) e =
      let (names, formulas-in-bytes, proof_in_bytes) = case_in_form input c reads in
      let written = issued_is_written _ _ _ _ _ names formulas-in-bytes proof_in_bytes p e most_text (omega arith) in
      its_text_opens_the_door_exactly_where_direct_accepts _ _ _ _ _ names formulas-in-bytes proof_in_bytes p e most_text (text_of p) written
      m in_range state σ states
  opens_exactly (Err answer) e = (
    λ opens. absurd (refusal_stays_shut answer c.request m state opens),
    λ accepted. absurd (refused_is_accepted_nowhere answer e accepted),
  )

  pub printed_opens_exactly : (opening_text (printed input) c.request m state ≡ Ok tt) ↔ Accepted
  printed_opens_exactly = rw (case_printed input c reads) (opens_exactly (verified_of c) refl)
