-- Laws of lines in a row: from a line that reads one goes on with the next line's number, and a line that does not read is the one that
-- breaks the form.
use Prim.Native.Nat.{ℕ, suc}
use mathlib.Core.Path.{◌≡◌, refl}
use Rattle.std.specs.Prelude.{Err, Ok, Some}
use Rattle.procap.specs.Outcome.{go_on}
use Rattle.procap.specs.Bytes.{Reader}
use Rattle.procap.specs.declared.answer.Answer.{Answer}
use Rattle.text.specs.LinesInARow.{Lines, ◌>>=◌, at_line, one_line}

module _ {A B : Type 0} (f : A → Lines B) (line at : ℕ) where
  -- From a line that reads one goes on with the next one.
  pub line_reads : (r : Reader A) (a : A) (next : ℕ) → r at ≡ Some (a, next) → (one_line r >>= f) line at ≡ f a (suc line) next
  unfolding at_line go_on
  line_reads r a next e = rw e refl

  -- From lines that read one goes on with the line after them.
  pub lines_read : (r : Lines A) (a : A) (line' next : ℕ) → r line at ≡ Ok (a, line', next) → (r >>= f) line at ≡ f a line' next
  unfolding go_on
  lines_read r a line' next e = rw e refl

  -- Where one of several lines breaks the form, it does so of what follows too.
  pub lines_break : (r : Lines A) (answer : Answer) → r line at ≡ Err answer → (r >>= f) line at ≡ Err answer
  unfolding go_on
  lines_break r answer e = rw e refl
