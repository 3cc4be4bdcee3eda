-- What the plain numbers of a ledger say of its stop and of its reading, and what an answer that stops it leaves of them.
use Rattle.std.specs.Prelude.{Err}
use Prim.Native.Nat.{ℕ, ◌-◌, ◌<◌}
use mathlib.Core.Bool.{Bool, true, false}
use mathlib.Core.Path.{◌≡◌, refl, sym, ◌∙◌}
use native.Mathlib.Omega.{arith}
use lib.Dec.{eqb}
use borrow.Author.Tests.{eqb-true, eqb-false, eq-eqb, ne_eqb}
use Rattle.procap.specs.Tells.{Tells, pick}
use Rattle.procap.specs.Answers.{number_of, place_of}
use Rattle.procap.specs.declared.answer.Answer.{Answer}
use Rattle.procap.specs.declared.answer.Answer.TheVariants.{OrderFalse, FactMissing}
use Rattle.procap.proofs.Telling.{picked, tells_if}
use Rattle.procap.proofs.Granted.{no_grant}
use Rattle.procap.proofs.AnswerNumbers.{answer_reads_back}
use Rattle.bl.specs.Questions.{Question, at_most, holds}
use Rattle.bl.specs.Readings.{fault}
use Rattle.ledger.specs.declared.Reading.TheVariants.{Office, Press}
use Rattle.ledger.specs.declared.Ledger.{Ledger}
use Rattle.ledger.specs.Books.{stop_by, stop_of, reading_by, reading_in, stopped_by, GoesOn}

-- ── The numbers of a ledger ──

-- A walk goes on where the number is 0, and only there.
pub number_going : (l : Ledger) → l.number ≡ 0 → GoesOn l
unfolding stop_by
number_going l e = rw (eq-eqb l.number 0 e)

pub going_number : (l : Ledger) → GoesOn l → l.number ≡ 0
unfolding stop_by
going_number l e = picked (eqb l.number 0) _ _ _ no_grant e (λ t same. eqb-true l.number 0 t)

-- So the test of the number tells whether the walk goes on.
pub tells_going : (l : Ledger) → Tells (eqb l.number 0) (GoesOn l)
tells_going l = tells_if (eqb l.number 0) (λ t. number_going l (eqb-true l.number 0 t)) (λ t e. eqb-false l.number 0 t (going_number l e))

-- A walk is read at the office by 0, and else at a press, at the moment before the number.
pub at_office : (n : ℕ) → n ≡ 0 → reading_by n ≡ Office
unfolding reading_by
at_office n e = rw (eq-eqb n 0 e)

pub at_press : (n : ℕ) → (n ≡ 0 → ⊥) → reading_by n ≡ Press (n - 1)
unfolding reading_by
at_press n apart = rw (ne_eqb n 0 apart)

-- ── An answer that stops a walk ──

-- Its number and its place stand for it,
abbrev pub Stops : Answer → Type 0
Stops answer = stop_by (number_of answer) (place_of answer) ≡ Err answer

-- as those of every refusal do.
pub refusal_stops : (answer : Answer) → 0 < number_of answer → Stops answer
unfolding stop_by
refusal_stops answer h = rw (ne_eqb (number_of answer) 0 (λ e. omega arith), answer_reads_back answer)

pub fault_stops : (x : Question) (q : ℕ) → Stops (fault x q)
unfolding fault
fault_stops (at_most t u) q = refusal_stops (OrderFalse q) (omega arith)
fault_stops (holds f) q = refusal_stops (FactMissing q) (omega arith)

-- It is kept if it is the first.
pub stopped_now : (l : Ledger) (answer : Answer) → Stops answer → GoesOn l → stop_of (stopped_by answer l) ≡ Err answer
unfolding stopped_by
stopped_now l answer h e = rw (eq-eqb l.number 0 (going_number l e)) h

pub stopped_before : (l : Ledger) (answer before : Answer) → stop_of l ≡ Err before → stop_of (stopped_by answer l) ≡ Err before
unfolding stopped_by
stopped_before l answer before e = rw (ne_eqb l.number 0 (λ z. no_grant (sym e ∙ number_going l z))) e

-- It leaves the reading as it was.
pick_same : {A : Type 0} (f : Ledger → A) (b : Bool) (l r : Ledger) → f r ≡ f l → f (pick b r l) ≡ f l
pick_same f true l r e = e
pick_same f false l r e = refl

pub stopped_reading : (answer : Answer) (l : Ledger) → reading_in (stopped_by answer l) ≡ reading_in l
unfolding stopped_by
stopped_reading answer l = pick_same reading_in (eqb l.number 0) l _ refl
