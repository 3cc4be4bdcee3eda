-- A name is looked up among those of a counted list, which are those that the list counts where it is in order.
use Prim.Native.Nat.{ℕ, ◌≤◌, ◌<◌}
use mathlib.Core.Path.{◌≡◌, ◌∙◌}
use mathlib.Core.List.{List}
use native.Mathlib.Omega.{arith}
use lib.ListN.{length, get_or, take}
use lib.Seq.{take_all}
use Rattle.std.specs.Prelude.{None, Some}
use Rattle.rising.specs.Rising.{Rising, CountsBelow}
use Rattle.bl.specs.Strength.{most_pairs}
use Rattle.strength.specs.Places.{PlacedIn}
use Rattle.strength.specs.InNumbers.{names, Ordered}
use Rattle.strength.proofs.Naming.{name_there, name_absent}

module _ (numbers standing : List ℕ) (name place : ℕ) (few : length standing ≤ most_pairs)
    (counts : CountsBelow standing (length standing) name place) (o : Ordered numbers) (same : standing ≡ names numbers) where
  whole : take (length standing) standing ≡ names numbers
  whole = take_all (length standing) standing (omega arith) ∙ same

  rises : Rising (take (length standing) standing)
  rises = rw whole o.rising

  pub stands_there : place < length standing → get_or standing place 0 ≡ name → PlacedIn (names numbers) name (Some place)
  stands_there l e = rw whole at (name_there standing (length standing) name place few (omega arith) rises counts l e)

  pub stands_nowhere : (place < length standing → get_or standing place 0 ≡ name → ⊥) → PlacedIn (names numbers) name None
  stands_nowhere n = rw whole at (name_absent standing (length standing) name place few (omega arith) rises counts n)
