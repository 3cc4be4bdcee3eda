-- Pairs of principals in bytes, as a caller in C hands them over: the stronger, then the weaker, 2 bytes each.
use Rattle.std.specs.Prelude.{ℕ, ◌+◌, ◌*◌, List, length}
use Rattle.from_c.specs.Numbers.{two}
use Rattle.from_c.specs.InARow.{in_a_row, how_many}

-- How many bytes a pair takes.
abbrev pub pair_bytes : ℕ
pair_bytes = 4

-- How many pairs are lent on at the most: one more than are taken, so that too many stay too many.
abbrev pub pairs_at_most : ℕ
pairs_at_most = 129

-- The pair at a place, as one number.
abbrev pub pair_at : List ℕ → ℕ → ℕ
pair_at bytes at = two bytes at * 65536 + two bytes (at + 2)

-- The pairs that the bytes say, each as one number.
unfoldable pub pair_numbers : List ℕ → List ℕ
pair_numbers bytes = in_a_row (pair_at bytes) pair_bytes (how_many pair_bytes (length bytes)) 0
