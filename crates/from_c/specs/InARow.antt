-- Values in a row, and how many of them stand in some bytes.
use Rattle.std.specs.Prelude.{ℕ, zero, suc, ◌+◌, ◌/◌, ◌%◌, List, [], ◌∷◌, eqb}
use Rattle.procap.specs.Tells.{pick}

-- So many from a place on, each a step after the one before.
unfoldable pub in_a_row : {A : Type 0} → (ℕ → A) → ℕ → ℕ → ℕ → List A
in_a_row value step zero at = []
in_a_row value step (suc n) at = value at ∷ in_a_row value step n (at + step)

-- How many things of so many bytes each stand in n bytes; an incomplete one at the end is one too.
abbrev pub how_many : ℕ → ℕ → ℕ
how_many each n = pick (eqb (n % each) 0) (n / each) (n / each + 1)
