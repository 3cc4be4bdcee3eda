-- Where numbers rise, those below a number stand before the others, so the point that parts them tells how many they are.
use Prim.Native.Nat.{ℕ, zero, suc, ◌≤◌, ◌<◌}
use mathlib.Core.Path.{◌≡◌}
use mathlib.Core.Bool.{true, false}
use mathlib.Core.List.{List, [], ◌∷◌}
use native.Mathlib.Omega.{arith}
use native.Mathlib.Decide.{dec_lt}
use borrow.Author.Tests.{ltb-true, ltb-false}
use lib.Dec.{ltb}
use lib.ListN.{length, get_or}
use Rattle.std.specs.List.Sorted.{IsNonDecreasingBy, IsPartitionPoint}
use Rattle.std.proofs.lemmas.List.{get_or_default}
use Rattle.rising.specs.Rising.{Rising, below}
use Rattle.rising.proofs.Placing.{placing, placed_within, least_first, past_lower, not_past}

-- No number is above a later one.
pub rising_sorted : (ks : List ℕ) → Rising ks → IsNonDecreasingBy (λ k. k) ks
unfolding Rising
rising_sorted [] r i j d l m = absurd (omega arith)
rising_sorted (k ∷ ks) r zero j d l m = omega (arith, least_first k ks j r m, get_or_default (k ∷ ks) j 0 d m)
rising_sorted (k ∷ ks) r (suc i) zero d l m = absurd (omega arith)
rising_sorted (k ∷ ks) r (suc i) (suc j) d l m = rising_sorted ks r.1 i j d (omega arith) (omega arith)

-- The point before which all are below the number, and from which on none is, is the place of the number.
module _ (ks : List ℕ) (n i : ℕ) (r : Rising ks) (parts : IsPartitionPoint (λ k. ltb k n ≡ true) (λ k. ltb k n ≡ false) ks i) where
  not_before : i < below n ks → ⊥
  not_before l =
      let inside = placed_within (placing n ks) in
      omega (arith, not_past i (placing n ks) (ltb-false (get_or ks i 0) n (parts.1 i 0 (omega arith) (omega arith))))

  not_behind : i ≤ length ks → below n ks < i → ⊥
  not_behind w l =
      let at = below n ks in
      omega (arith, past_lower at (placing n ks) r (omega arith) (ltb-true (get_or ks at 0) n (parts.0 at 0 (omega arith) (omega arith))))

  pub parted_at : i ≤ length ks → i ≡ below n ks
  parted_at w =
      elim (dec_lt i (below n ks)) [ yes l ↦ absurd (not_before l) | no g ↦ elim (dec_lt (below n ks) i) [ yes l ↦ absurd (not_behind w l) | no h ↦ omega arith ] ]
