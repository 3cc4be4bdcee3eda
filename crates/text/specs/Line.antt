-- [Text] What stands in a line: given bytes, and a number in its one spelling.
use Rattle.std.specs.Prelude.{ℕ, ◌+◌, List, [], ◌∷◌, length, drop, leb, eqb, Some}
use Rattle.procap.specs.Bytes.{Reader, ◌>>=◌, give, ensure, byte}
use Rattle.text.specs.Words.{bytes_of}
use Rattle.text.specs.Numbers.{leading_digits, value, one_spelling}

module _ (bytes : List ℕ) where
  -- Just these bytes.
  unfoldable pub literal : List ℕ → Reader (Unit {0})
  literal [] = give tt
  literal (b ∷ bs) = do
    x ← byte bytes
    _ ← ensure (eqb x b)
    literal bs

  -- All digits that stand next.
  unfoldable pub digits : Reader (List ℕ)
  digits at = let ds = leading_digits (drop at bytes) in Some (ds, at + length ds)

  -- [Text; D52] A number up to a limit, in its one spelling.
  unfoldable pub number_to : ℕ → Reader ℕ
  number_to limit = do
    ds ← digits
    _ ← ensure (one_spelling ds)
    _ ← ensure (leb (value 0 ds) limit)
    give (value 0 ds)

  -- [Text] A line with a number up to a limit.
  unfoldable pub line_to : List ℕ → ℕ → Reader ℕ
  line_to word limit = do
    _ ← literal word
    n ← number_to limit
    _ ← literal (bytes_of "\n")
    give n
