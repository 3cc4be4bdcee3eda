-- What one fact of a state says of the fact that is asked.
use Rattle.std.specs.Prelude.{ℕ, Bool, ◌≡◌, List, Some}
use Rattle.procap.specs.Tells.{Tells}
use Rattle.procap.specs.Facts.{Spelled, spelled, spelled_at_moment}
use Rattle.procap.specs.States.{fact}
use Rattle.procap.specs.declared.fact.Fact.{Fact}

-- The flag tells whether the fact at a place of the bytes is this one with the moment put for ctime.
abbrev pub StandsAt : List ℕ → ℕ → Fact → ℕ → Bool → Type 0
StandsAt bytes at wanted m r = (f : Spelled) (e : ℕ) → fact bytes at ≡ Some (f, e) → Tells r (spelled_at_moment m (spelled wanted) ≡ f)
