-- [Program] What a single line of a case may hold besides a number: a time, bytes, or nothing more at all.
use Rattle.std.specs.Prelude.{ℕ, ◌+◌, List, length, drop, eqb, None, Option, Some}
use Rattle.procap.specs.Times.{latest}
use Rattle.procap.specs.Bytes.{Reader, ◌>>=◌, give, ensure}
use Rattle.procap.specs.declared.time.Time.{Time}
use Rattle.procap.specs.declared.time.Time.TheVariants.{Moment, MinusInfinity, PlusInfinity}
use Rattle.text.specs.Words.{bytes_of}
use Rattle.text.specs.Line.{literal, number_to}
use Rattle.cases.specs.Hex.{leading_hex, in_pairs, paired}

-- What the first reader finds, or else what the second does.
unfoldable pub first_of : {A : Type 0} → Option (A × ℕ) → Option (A × ℕ) → Option (A × ℕ)
first_of (Some r) o = Some r
first_of None o = o

module _ (bytes : List ℕ) where
  -- A sign that stands for a time.
  unfoldable pub sign : List ℕ → Time → Reader Time
  sign word t = do
    _ ← literal bytes word
    give t

  -- A moment of the clock, spelled and ranged as in the procap text.
  unfoldable pub moment : Reader Time
  moment = do
    k ← number_to bytes latest
    give (Moment k)

  -- [Program] From and to may be `-` or `+`.
  unfoldable pub case_time : Reader Time
  case_time at = first_of (sign (bytes_of "-") MinusInfinity at) (first_of (sign (bytes_of "+") PlusInfinity at) (moment at))

  -- [Program] A line with a time.
  unfoldable pub time_line : List ℕ → Reader Time
  time_line word = do
    _ ← literal bytes word
    t ← case_time
    _ ← literal bytes (bytes_of "\n")
    give t

  -- All hex digits that stand next.
  unfoldable pub hex_digits : Reader (List ℕ)
  hex_digits at = let ds = leading_hex (drop at bytes) in Some (ds, at + length ds)

  -- [Program; D57] A line with bytes in lower-case hex, possibly none.
  unfoldable pub hex_line : List ℕ → Reader (List ℕ)
  hex_line word = do
    _ ← literal bytes word
    ds ← hex_digits
    _ ← ensure (in_pairs ds)
    _ ← literal bytes (bytes_of "\n")
    give (paired ds)

  -- [Program] Nothing more: the proof's line is the last.
  unfoldable pub nothing_more : Reader (Unit {0})
  nothing_more at = ensure (eqb at (length bytes)) at
