-- A number goes behind those that are below it: at the end, before the next, or where it stands. All laws of `below` and `insert` go by
-- these cases.
use Prim.Native.Nat.{ℕ, zero, suc, ◌≤◌, ◌<◌}
use mathlib.Core.Path.{◌≡◌}
use mathlib.Core.List.{List, [], ◌∷◌}
use native.Mathlib.Omega.{arith}
use native.Mathlib.Decide.{dec_lt, ℕ_discrete}
use borrow.Author.Tests.{lt-ltb, le-ltb, eq-eqb, ne_eqb}
use lib.Dec.{eqb}
use lib.ListN.{length, get_or}
use Rattle.procap.specs.Tells.{pick}
use Rattle.procap.proofs.Indices.{all_at}
use Rattle.rising.specs.Rising.{Rising, below, insert}

-- A number, what it is put into, how many are below it, and what comes of it.
pub data Placing (n : ℕ) : List ℕ → ℕ → List ℕ → Type 0 where
  last : Placing n [] 0 (n ∷ [])
  before : {k : ℕ} {ks : List ℕ} → n < k → Placing n (k ∷ ks) 0 (n ∷ k ∷ ks)
  there : {k : ℕ} {ks : List ℕ} → k ≡ n → Placing n (k ∷ ks) 0 (k ∷ ks)
  behind : {k i : ℕ} {ks ls : List ℕ} → k < n → Placing n ks i ls → Placing n (k ∷ ks) (suc i) (k ∷ ls)

-- So it goes for each number and each list.
pub placing : (n : ℕ) (ks : List ℕ) → Placing n ks (below n ks) (insert n ks)
unfolding below insert
placing n [] = last
placing n (k ∷ ks) =
    elim (dec_lt k n)
    [ yes l ↦ rw (lt-ltb k n l) (behind l (placing n ks)) | no g ↦ rw (le-ltb k n (omega arith)) (here (omega arith) (ℕ_discrete k n)) ]
  where
    here : n ≤ k → Dec (k ≡ n) → Placing n (k ∷ ks) 0 (pick (eqb k n) (k ∷ ks) (n ∷ k ∷ ks))
    here l (yes e) = rw (eq-eqb k n e) (there e)
    here l (no d) = let less : n < k = omega (arith, d) in rw (ne_eqb k n d) (before less)

-- No more are below it than there are.
pub placed_within : {n i : ℕ} {ks ls : List ℕ} → Placing n ks i ls → i ≤ length ks
placed_within last = omega arith
placed_within (before l) = omega arith
placed_within (there e) = omega arith
placed_within (behind l p) = omega (arith, placed_within p)

-- The first of rising numbers is the least.
pub least_first : (k : ℕ) (ks : List ℕ) (m : ℕ) → Rising (k ∷ ks) → m < length (k ∷ ks) → k ≤ get_or (k ∷ ks) m 0
unfolding Rising
least_first k ks zero r b = omega arith
least_first k ks (suc m) r b = omega (arith, all_at (λ x. k < x) 0 ks m (omega arith) r.0)

-- The place is past each that is below the number, where they rise.
pub past_lower : {n i : ℕ} {ks ls : List ℕ} (m : ℕ) → Placing n ks i ls → Rising ks → m < length ks → get_or ks m 0 < n → m < i
unfolding Rising
past_lower m last r b h = omega arith
past_lower m (before {k = k} {ks = ks} l) r b h = absurd (omega (arith, least_first k ks m r b))
past_lower m (there {k = k} {ks = ks} e) r b h = absurd (omega (arith, least_first k ks m r b))
past_lower zero (behind l p) r b h = omega arith
past_lower (suc m) (behind l p) r b h = omega (arith, past_lower m p r.1 (omega arith) h)

-- And it is not past one that is not below.
pub not_past : {n i : ℕ} {ks ls : List ℕ} (m : ℕ) → Placing n ks i ls → n ≤ get_or ks m 0 → i ≤ m
not_past m last h = omega arith
not_past m (before l) h = omega arith
not_past m (there e) h = omega arith
not_past zero (behind l p) h = absurd (omega arith)
not_past (suc m) (behind l p) h = omega (arith, not_past m p h)
