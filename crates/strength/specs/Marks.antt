-- Marks as bits: a number for each row, and in it a bit for each column.
use Rattle.std.specs.Prelude.{ℕ, ◌≡◌, List, ◌⊎◌, ◌↔◌, get_or}
use Rattle.std.specs.Int.{bit_at}

-- The bit of a row at a place is set.
unfoldable pub Bit : ℕ → ℕ → Type 0
Bit row place = bit_at row place ≡ 1

-- The mark of a row and a column is set.
abbrev pub Marked : List ℕ → ℕ → ℕ → Type 0
Marked rows row column = Bit (get_or rows row 0) column

-- A row has gained marks if it had the mark of a column, and else it is as it was.
abbrev pub RowGains : ℕ → ℕ → ℕ → ℕ → Type 0
RowGains column gained row more = (y : ℕ) → Bit more y ↔ (Bit row y ⊎ (Bit row column × Bit gained y))

-- So has each row.
abbrev pub RowsGain : ℕ → ℕ → List ℕ → List ℕ → Type 0
RowsGain column gained rows more = (x : ℕ) → RowGains column gained (get_or rows x 0) (get_or more x 0)
