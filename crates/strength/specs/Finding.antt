-- What finding the strengths promises.
use Rattle.std.specs.Prelude.{ℕ, ◌≤◌, List, length}
use Rattle.bl.specs.Strength.{pairs_of, most_pairs}
use Rattle.strength.specs.declared.table.Strengths.{Strengths}
use Rattle.strength.specs.Strengths.{Unmarked, StrengthsOf}

-- Where nobody was marked, these are the strengths that the pairs give, unless the pairs are too many.
abbrev pub FindsStrengths : List ℕ → Strengths → Strengths → Type 0
FindsStrengths pairs before s = length pairs ≤ most_pairs → Unmarked before → StrengthsOf s (pairs_of pairs)
