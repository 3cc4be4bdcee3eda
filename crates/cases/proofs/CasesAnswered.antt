-- What is read of an input, what it comes to, and what is printed for it: of one that is too long, of one with a line that breaks the
-- form, and of one that is a case.
use Prim.Native.Nat.{ℕ, ◌≤◌, ◌<◌}
use mathlib.Core.Path.{◌≡◌, refl, sym, ap, ◌∙◌}
use mathlib.Core.List.{List}
use native.Mathlib.Decide.{dec_le}
use native.Mathlib.Omega.{arith}
use lib.ListN.{length}
use Rattle.std.specs.Prelude.{Err, Ok}
use Rattle.procap.specs.Outcome.{Outcome, go_on}
use Rattle.procap.specs.declared.answer.Answer.{Answer}
use Rattle.procap.specs.declared.answer.Answer.TheVariants.{InputMalformed}
use Rattle.procap.specs.declared.procap.Procap.{Procap}
use Rattle.procap.proofs.Granted.{goes_on, is_so, is_not_so}
use Rattle.text.specs.Text.{refusal_text}
use Rattle.text.specs.Calls.{fitting, writing}
use Rattle.text.proofs.Written.{can_be_written}
use Rattle.cases.specs.Case.{most_input, Case, case_lines, case_in}
use Rattle.cases.specs.Calls.{checked, printed_of, printed, answering}
use Rattle.cases.proofs.Printables.{verified_of, checked_is_writable}

module _ (input : List ℕ) where
  -- ── What is read ──

  -- An input that is too long is no case.
  pub too_long_is_no_case : most_input < length input → case_in input ≡ Err (InputMalformed 0)
  unfolding case_in go_on
  too_long_is_no_case l = rw (is_not_so (InputMalformed 0) (dec_le (length input) most_input) (λ h. omega arith)) refl

  module _ (short : length input ≤ most_input) where
    -- Of one that is not, it is up to its lines.
    by_its_lines : case_in input ≡ go_on (case_lines input 1 0) λ x. Ok x.0
    unfolding case_in
    by_its_lines = goes_on _ _ tt (is_so (InputMalformed 0) (dec_le (length input) most_input) short)

    -- A line that breaks the form.
    pub broken_is_no_case : (answer : Answer) → case_lines input 1 0 ≡ Err answer → case_in input ≡ Err answer
    unfolding go_on
    broken_is_no_case answer breaks = by_its_lines ∙ ap (λ o. go_on o λ x. Ok x.0) breaks

    -- Lines that say a case.
    pub lines_say_case : (c : Case) (line next : ℕ) → case_lines input 1 0 ≡ Ok (c, line, next) → case_in input ≡ Ok c
    unfolding go_on
    lines_say_case c line next reads = by_its_lines ∙ ap (λ o. go_on o λ x. Ok x.0) reads

  -- ── What it comes to ──

  -- No case is refused with what refuses it.
  pub no_case_checked : (answer : Answer) → case_in input ≡ Err answer → checked input ≡ Err answer
  unfolding checked go_on
  no_case_checked answer e = rw e refl

  -- A case comes to what verify comes to for it.
  pub case_checked : (c : Case) → case_in input ≡ Ok c → checked input ≡ verified_of c
  unfolding checked
  case_checked c e = goes_on (case_in input) verified_of c e

  -- ── What is printed ──

  -- What is printed is the text of what it comes to.
  printed_by : (o : Outcome Procap) → checked input ≡ o → printed input ≡ printed_of o
  unfolding printed
  printed_by o e = ap printed_of e

  -- And so it is where a room is given.
  answered_by : (room : ℕ) (o : Outcome Procap) → checked input ≡ o → answering input room ≡ fitting (printed_of o) room
  unfolding answering
  answered_by room o e = ap (λ text. fitting text room) (printed_by o e)

  -- Where there is no case, the two lines of the refusal are printed.
  pub no_case_printed : (answer : Answer) → case_in input ≡ Err answer → printed input ≡ refusal_text answer
  unfolding printed_of
  no_case_printed answer e = printed_by (Err answer) (no_case_checked answer e)

  -- Where there is one, it is what verify comes to for it.
  pub case_printed : (c : Case) → case_in input ≡ Ok c → printed input ≡ printed_of (verified_of c)
  case_printed c e = printed_by (verified_of c) (case_checked c e)

  -- Where it comes to a procap, this is written; else the two lines of the refusal are.
  pub issued_answered : (room : ℕ) (p : Procap) → checked input ≡ Ok p → answering input room ≡ writing p room
  unfolding printed_of
  issued_answered room p e = answered_by room (Ok p) e ∙ sym (can_be_written p room (checked_is_writable input p e))

  pub refused_answered : (room : ℕ) (answer : Answer) → checked input ≡ Err answer → answering input room ≡ fitting (refusal_text answer) room
  unfolding printed_of
  refused_answered room answer e = answered_by room (Err answer) e
