-- How many levels a step may have, and how many assumptions stand around it.
use Rattle.std.specs.Prelude.{ℕ, zero, suc, None, Option, Some}
use Rattle.bl.specs.Steps.{most_proof_levels}

pub record Room : Type 0 where
  pub levels : ℕ
  pub assumptions : ℕ

-- [Bytes, proof steps] Those of a whole proof.
abbrev pub whole_room : Room
whole_room = record { levels = most_proof_levels; assumptions = 0 }

-- A level less, if one is left.
abbrev pub below : ℕ → ℕ → Option Room
below zero h = None
below (suc n) h = Some record { levels = n; assumptions = h }

-- [D14] The parts of a step have a level less.
abbrev pub inner : Room → Option Room
inner r = below r.levels r.assumptions

-- [D19] One assumption more.
abbrev pub assuming : Room → Room
assuming r = record { levels = r.levels; assumptions = suc r.assumptions }
