-- Where a name of a principal stands among others.
use Rattle.std.specs.Prelude.{ℕ, ◌<◌, ◌≡◌, List, Option, None, Some}
use Rattle.procap.specs.Lists.{In}
use Rattle.rising.specs.Rising.{below}
use Rattle.bl.specs.Strength.{most_pairs}

-- Where a name stands among others, if it does; a place is one of 128.
abbrev pub PlacedIn : List ℕ → ℕ → Option ℕ → Type 0
PlacedIn ks name None = In name ks → ⊥
PlacedIn ks name (Some i) = (i < most_pairs) × In name ks × (i ≡ below name ks)
