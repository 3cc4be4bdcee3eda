-- Where a name stands among rising ones is where the search comes to, and what it finds there is compared.
use Prim.Native.Nat.{ℕ, ◌≤◌, ◌<◌}
use mathlib.Core.Path.{◌≡◌, sym, ap, ◌∙◌}
use mathlib.Core.List.{List}
use native.Mathlib.Omega.{arith}
use lib.ListN.{length, get_or, take}
use lib.Seq.{length-take-le, get_or-take}
use Rattle.std.specs.Prelude.{None, Some}
use Rattle.procap.specs.Lists.{In}
use Rattle.rising.specs.Rising.{Rising, below, CountsBelow}
use Rattle.rising.proofs.RisingLaws.{stands_at, found_stands}
use Rattle.bl.specs.Strength.{most_pairs}
use Rattle.strength.specs.Places.{PlacedIn}

-- No two names have the same place.
pub same_place : (ks : List ℕ) (n m : ℕ) → Rising ks → In n ks → In m ks → below n ks ≡ below m ks → n ≡ m
same_place ks n m r i j e = sym (stands_at n ks r i).1 ∙ ap (λ x. get_or ks x 0) e ∙ (stands_at m ks r j).1

module _ (numbers : List ℕ) (count name place : ℕ) (few : count ≤ most_pairs) (room : count ≤ length numbers)
    (rise : Rising (take count numbers)) (counts : CountsBelow numbers count name place) where
  counted : length (take count numbers) ≡ count
  counted = length-take-le count numbers room

  place_is : place ≡ below name (take count numbers)
  place_is = counts room rise

  name_at : place < count → get_or (take count numbers) place 0 ≡ get_or numbers place 0
  name_at l = get_or-take count numbers place 0 l

  -- A name that stands there stands below the count.
  inside : In name (take count numbers) → place < count
  inside i = omega (arith, (stands_at name (take count numbers) rise i).0, place_is, counted)

  pub known_there : In name (take count numbers) → PlacedIn (take count numbers) name (Some place)
  known_there i = (omega (arith, inside i), i, place_is)

  pub name_there : place < count → get_or numbers place 0 ≡ name → PlacedIn (take count numbers) name (Some place)
  name_there l e =
      let found = ap (λ k. get_or (take count numbers) k 0) (sym place_is) ∙ name_at l ∙ e in
      known_there (found_stands name (take count numbers) (omega (arith, place_is, counted)) found)

  pub name_absent : (place < count → get_or numbers place 0 ≡ name → ⊥) → PlacedIn (take count numbers) name None
  name_absent n i =
      let at = (stands_at name (take count numbers) rise i).1 in
      n (inside i) (sym (name_at (inside i)) ∙ ap (λ k. get_or (take count numbers) k 0) place_is ∙ at)
