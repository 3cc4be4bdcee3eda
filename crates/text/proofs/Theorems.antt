-- The text and the procap value say the same: what is written reads back, what reads is what would have been written, and so no two texts read as one procap.
use Prim.Native.Nat.{ℕ, ◌≤◌}
use mathlib.Core.Path.{◌≡◌, sym, ap, ◌∙◌}
use mathlib.Core.List.{List}
use Rattle.std.specs.Prelude.{Ok, Some}
use lib.ListN.{length}
use Rattle.procap.specs.Writable.{Writable}
use Rattle.procap.specs.Bytes.{whole}
use Rattle.procap.specs.Outcome.{or_else}
use Rattle.procap.specs.Deciding.{writable?}
use Rattle.procap.specs.declared.answer.Answer.TheVariants.{ProcapMalformed}
use Rattle.procap.specs.declared.procap.Procap.{Procap}
use Rattle.procap.proofs.Granted.{went_on, was_there, was_so}
use Rattle.text.specs.Text.{text_of}
use Rattle.text.specs.Reader.{procap_lines, text_in}
use Rattle.text.specs.Calls.{reading, writing}
use Rattle.text.proofs.Readers.{takes_all, whole_read, whole_found}
use Rattle.text.proofs.WholeTexts.{procap_read, procap_found}
use Rattle.text.proofs.Written.{fitted, is_written}

-- What is written reads back the same.
pub written_reads_back : (p : Procap) → Writable p → text_in (text_of p) ≡ Some p
unfolding text_in
written_reads_back p h = whole_found (text_of p) (procap_lines (text_of p)) p (procap_found p h (takes_all (text_of p)))

-- What reads is what would have been written: there is no other spelling.
pub what_reads_is_written : (text : List ℕ) (p : Procap) → text_in text ≡ Some p → Writable p × (text_of p ≡ text)
unfolding text_in whole
what_reads_is_written text p e = whole_read p (procap_read 0) e

-- Two different texts never read as the same procap.
pub one_text_each : (a b : List ℕ) (p : Procap) → text_in a ≡ Some p → text_in b ≡ Some p → a ≡ b
one_text_each a b p h k = sym (what_reads_is_written a p h).1 ∙ (what_reads_is_written b p k).1

-- What the writer gives, the reader takes back.
pub written_is_read : (p : Procap) (room : ℕ) (text : List ℕ) → writing p room ≡ Ok text → reading text ≡ Ok p
unfolding writing reading or_else
written_is_read p room text e =
    went_on _ _ _ e λ u can fit.
    rw (← fitted (text_of p) room text fit, written_reads_back p (was_so ProcapMalformed (writable? p) u can))

-- What the reader takes, the writer gives back, into a buffer that is long enough.
pub read_is_written : (text : List ℕ) (p : Procap) → reading text ≡ Ok p → (room : ℕ) → length text ≤ room → writing p room ≡ Ok text
unfolding reading
read_is_written text p e room l =
    let (h, same) = what_reads_is_written text p (was_there ProcapMalformed (text_in text) p e) in
    is_written p room h (rw same l) ∙ ap Ok same
