-- Numbers and terms of a fixed width, at a place of some bytes. Where the bytes end before, they are zeros.
use Rattle.std.specs.Prelude.{ℕ, ◌+◌, List, None, Option, Some}
use Rattle.procap.specs.Numbered.{of_numbers}
use Rattle.procap.specs.Bytes.{number, byte}
use Rattle.procap.specs.declared.fact.Term.{Term}

-- The number that was read, or 0.
unfoldable pub or_zero : Option (ℕ × ℕ) → ℕ
or_zero None = 0
or_zero (Some r) = r.0

-- The number of one byte.
abbrev pub one : List ℕ → ℕ → ℕ
one bytes at = or_zero (byte bytes at)

-- The number of two bytes, the highest first.
abbrev pub two : List ℕ → ℕ → ℕ
two bytes at = or_zero (number bytes 2 at)

-- The number of eight bytes, the highest first.
abbrev pub eight : List ℕ → ℕ → ℕ
eight bytes at = or_zero (number bytes 8 at)

-- The term of nine bytes: its kind, by the tags 00 to 04, and the number that it holds. Any other kind is ctime.
abbrev pub wide_term : List ℕ → ℕ → Term
wide_term bytes at = of_numbers (one bytes at) (eight bytes (at + 1))
