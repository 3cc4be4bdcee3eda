-- What reads a line and goes on to the next one: where nothing was found, the line breaks the form. And how far what was found reaches: each
-- line takes a place, and ends within the input.
use Prim.Native.Nat.{ℕ, ◌+◌, ◌≤◌, ◌<◌}
use mathlib.Core.Path.{◌≡◌, refl, ap}
use mathlib.Core.List.{List}
use Rattle.std.specs.Prelude.{Err, None, Ok, Option, Some}
use native.Mathlib.Numerals.{add-one}
use native.Mathlib.Omega.{arith}
use lib.ListN.{length, drop, length-append, length-drop}
use Rattle.procap.specs.Writable.{largest_name}
use Rattle.procap.specs.declared.answer.Answer.TheVariants.{InputMalformed}
use Rattle.procap.specs.declared.procap.Request.{Request}
use Rattle.procap.specs.declared.time.Time.{Time}
use Rattle.procap.proofs.Readers.{so_read}
use Rattle.text.specs.Words.{bytes_of}
use Rattle.text.specs.Text.{line}
use Rattle.text.specs.Line.{literal, line_to}
use Rattle.text.specs.LinesInARow.{at_line}
use Rattle.text.specs.RequestLines.{request_lines}
use Rattle.text.proofs.Readers.{Takes, literal_read}
use Rattle.text.proofs.Requests.{request_read, said_granted}
use Rattle.text.proofs.Spellings.{line_read}
use Rattle.cases.specs.CaseLines.{time_line}
use Rattle.cases.specs.Found.{ReadSoFar, gone_to, WentOn, Told}
use Rattle.cases.proofs.Times.{time_line_ends}

-- ── One line ──

module _ {A : Type 0} (o : Option (A × ℕ)) where
  -- A line that is not found breaks the form; from one that is found one goes on to the next.
  pub not_found : (n : ℕ) → o ≡ None → at_line n o ≡ Err (InputMalformed n)
  unfolding at_line
  not_found n e = rw e refl

  pub found_there : (n : ℕ) (a : A) (next : ℕ) → o ≡ Some (a, next) → at_line n o ≡ Ok (a, n + 1, next)
  unfolding at_line
  found_there n a next e = rw (e, add-one) refl

  pub went_on : (old new : ReadSoFar) (a : A) (next : ℕ) → o ≡ Some (a, next) → new ≡ gone_to old next
      → WentOn (at_line old.line o) old new (Told old new) a
  went_on old new a next e gone =
      rw gone (record { found = a; reads = found_there old.line a next e; same = refl; is_of = (refl, refl) })

-- ── Places ──

-- The line of a word and a number has some bytes.
line_some : (word : List ℕ) (n : ℕ) → 0 < length (line word n)
unfolding line
line_some word n = simp length-append (omega arith)

module _ (input : List ℕ) (at next : ℕ) where
  -- What is taken from within the input ends within it, and no earlier.
  module _ (word : List ℕ) (t : Takes input at word next) where
    taken_within : at ≤ length input → (at ≤ next) × (next ≤ length input)
    taken_within inside =
        (omega (arith, t.place), omega (arith, t.place, ap length t.says, length-drop at input, length-drop next input, length-append word (drop next input)))

  -- A word; a line feed; a line with a number.
  pub word_within : (word : List ℕ) → literal input word at ≡ Some (tt, next) → at ≤ length input → (at ≤ next) × (next ≤ length input)
  word_within word e inside = taken_within word (so_read (literal input word at) e (literal_read word at)).0 inside

  pub feed_further : literal input (bytes_of "\n") at ≡ Some (tt, next) → at ≤ length input → (at < next) × (next ≤ length input)
  feed_further e inside =
      let t = (so_read (literal input (bytes_of "\n") at) e (literal_read (bytes_of "\n") at)).0 in
      (omega (arith, t.place), (taken_within (bytes_of "\n") t inside).1)

  pub number_further : (word : List ℕ) (limit n : ℕ) → limit ≤ largest_name → line_to input word limit at ≡ Some (n, next)
      → at ≤ length input → (at < next) × (next ≤ length input)
  number_further word limit n small e inside =
      let t = (so_read (line_to input word limit at) e (line_read word limit at (omega arith))).0 in
      (omega (arith, t.place, line_some word n), (taken_within (line word n) t inside).1)

  -- A line with a time, and a request.
  pub time_further : (word : List ℕ) (t : Time) → time_line input word at ≡ Some (t, next) → (at < next) × (next ≤ length input)
  time_further word t e = so_read (time_line input word at) e (time_line_ends input word at)

  pub request_within : (r : Request) (m n : ℕ) → request_lines input m at ≡ Ok (r, n, next) → at ≤ length input
      → (at ≤ next) × (next ≤ length input)
  request_within r m n e inside = taken_within _ (so_read _ (said_granted _ r n next e) (request_read m at)).0 inside
