-- A state that is well formed, and a fact that stands in one.
use Rattle.std.specs.Prelude.{ℕ, Bool, ◌≡◌, List, None, Option, Some}
use Rattle.procap.specs.Tells.{Tells}
use Rattle.procap.specs.Lists.{In}
use Rattle.procap.specs.Facts.{Spelled}
use Rattle.procap.specs.States.{stated}

-- [Bytes, state] The bytes are a state.
abbrev pub WellFormed : List ℕ → Type 0
WellFormed bytes = (σ : List Spelled) × (stated bytes ≡ Some σ)

-- [Readings, facts; D35] The bytes are a state, and the fact stands in it.
abbrev pub Stands : List ℕ → Spelled → Type 0
Stands bytes f = (σ : List Spelled) × (stated bytes ≡ Some σ) × In f σ

-- A pass over bytes that are no state finds nothing, and over a state whether the fact stands there.
abbrev pub Finds : Option (List Spelled) → Spelled → Option Bool → Type 0
Finds o f None = o ≡ None
Finds o f (Some found) = (σ : List Spelled) × (o ≡ Some σ) × Tells found (In f σ)
