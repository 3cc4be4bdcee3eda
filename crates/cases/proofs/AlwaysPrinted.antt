-- With room for the longest text, what is printed for an input is always given, whatever the input is.
use Prim.Native.Nat.{ℕ, ◌≤◌}
use mathlib.Core.Path.{◌≡◌, refl}
use mathlib.Core.List.{List}
use native.Mathlib.Omega.{arith}
use lib.ListN.{length}
use Rattle.procap.specs.Writable.{Writable}
use Rattle.std.specs.Prelude.{Err, Ok}
use Rattle.procap.specs.Outcome.{Outcome}
use Rattle.procap.specs.declared.procap.Procap.{Procap}
use Rattle.text.specs.Buffers.{most_text}
use Rattle.text.proofs.Longest.{at_most_1223, refusal_at_most_38}
use Rattle.text.proofs.Written.{fits}
use Rattle.cases.specs.Case.{Case, case_in}
use Rattle.cases.specs.Calls.{printed_of, printed, answering}
use Rattle.cases.proofs.Printables.{verified_of, issued_is_writable}
use Rattle.cases.proofs.CasesAnswered.{no_case_printed, case_printed}

-- What is printed for an outcome is short, where a procap that it grants can be written.
short_of : (o : Outcome Procap) → ((p : Procap) → o ≡ Ok p → Writable p) → length (printed_of o) ≤ most_text
unfolding printed_of
short_of (Ok p) writable = at_most_1223 p (writable p refl)
short_of (Err answer) writable = omega (arith, refusal_at_most_38 answer)

-- No more is printed than the longest text has.
pub printed_is_short : (input : List ℕ) → length (printed input) ≤ most_text
printed_is_short input = by (case_in input) refl
  where
    by : (o : Outcome Case) → case_in input ≡ o → length (printed input) ≤ most_text
    by (Err answer) e = rw (no_case_printed input answer e) (omega (arith, refusal_at_most_38 answer))
    by (Ok c) e = rw (case_printed input c e) (short_of (verified_of c) (issued_is_writable input c e))

-- So with that much room it is what is given.
pub always_printed : (input : List ℕ) (room : ℕ) → most_text ≤ room → answering input room ≡ Ok (printed input)
unfolding answering
always_printed input room l = fits (printed input) room (omega (arith, printed_is_short input))
