-- What a caller needs of numbers that rise: one more put among them, and where one stands.
use Prim.Native.Nat.{ℕ, suc, ◌≤◌, ◌<◌}
use mathlib.Core.Path.{◌≡◌, sym, ◌∙◌, subst}
use mathlib.Core.List.{List, [], ◌∷◌}
use mathlib.Core.Logic.{◌⊎◌, inl, inr}
use native.Mathlib.Omega.{arith}
use lib.ListN.{length, get_or}
use Rattle.std.specs.Coded.{×_prop, Unit-prop, le_prop}
use Rattle.procap.specs.Lists.{All, In}
use Rattle.procap.proofs.Indices.{in_rest}
use Rattle.procap.proofs.Each.{each_in}
use Rattle.rising.specs.Rising.{Above, Rising, below, insert}
use Rattle.rising.proofs.Placing.{Placing, last, before, there, behind, placing, placed_within}

-- An empty list rises.
pub none_rises : Rising []
unfolding Rising
none_rises = tt

-- What is so of the number and of each of the others is so of each with the number among them.
put_all : (P : ℕ → Type 0) {n i : ℕ} {ks ls : List ℕ} → Placing n ks i ls → P n → All P ks → All P ls
unfolding All
put_all P last h a = (h, a)
put_all P (before l) h a = (h, a)
put_all P (there e) h a = a
put_all P (behind l p) h a = (a.0, put_all P p h a.1)

pub insert_all : (P : ℕ → Type 0) (n : ℕ) (ks : List ℕ) → P n → All P ks → All P (insert n ks)
insert_all P n ks = put_all P (placing n ks)

-- Rising numbers rise with one more among them.
above_lower : {n k : ℕ} → n < k → (ks : List ℕ) → Above k ks → Above n ks
unfolding All
above_lower l [] a = tt
above_lower l (x ∷ xs) a = (omega arith, above_lower l xs a.1)

put_rising : {n i : ℕ} {ks ls : List ℕ} → Placing n ks i ls → Rising ks → Rising ls
unfolding Rising All
put_rising last r = (tt, tt)
put_rising (before {ks = ks} l) r = ((l, above_lower l ks r.0), r)
put_rising (there e) r = r
put_rising (behind l p) r = (put_all (λ x. _ < x) p l r.0, put_rising p r.1)

pub insert_rising : (n : ℕ) (ks : List ℕ) → Rising ks → Rising (insert n ks)
insert_rising n ks = put_rising (placing n ks)

-- What stands there then is the number or stood there before, and both stand there.
put_adds : {x n i : ℕ} {ks ls : List ℕ} → Placing n ks i ls → In x ls → (x ≡ n) ⊎ In x ks
unfolding In
put_adds last h = h
put_adds (before l) h = h
put_adds (there e) h = inr h
put_adds (behind l p) (inl e) = inr (inl e)
put_adds (behind l p) (inr h) = elim (put_adds p h) [ inl e ↦ inl e | inr i ↦ inr (inr i) ]

pub insert_adds : (x n : ℕ) (ks : List ℕ) → In x (insert n ks) → (x ≡ n) ⊎ In x ks
insert_adds x n ks = put_adds (placing n ks)

put_has : {x n i : ℕ} {ks ls : List ℕ} → Placing n ks i ls → (x ≡ n) ⊎ In x ks → In x ls
unfolding In
put_has last h = h
put_has (before l) h = h
put_has (there e) (inl q) = inl (q ∙ sym e)
put_has (there e) (inr h) = h
put_has (behind l p) (inl q) = inr (put_has p (inl q))
put_has (behind l p) (inr (inl q)) = inl q
put_has (behind l p) (inr (inr h)) = inr (put_has p (inr h))

pub insert_has : (x n : ℕ) (ks : List ℕ) → (x ≡ n) ⊎ In x ks → In x (insert n ks)
insert_has x n ks = put_has (placing n ks)

-- They are one more at the most.
put_length : {n i : ℕ} {ks ls : List ℕ} → Placing n ks i ls → length ls ≤ suc (length ks)
put_length last = omega arith
put_length (before l) = omega arith
put_length (there e) = omega arith
put_length (behind l p) = omega (arith, put_length p)

pub insert_length : (n : ℕ) (ks : List ℕ) → length (insert n ks) ≤ suc (length ks)
insert_length n ks = put_length (placing n ks)

-- No more are below a number than there are.
pub below_within : (n : ℕ) (ks : List ℕ) → below n ks ≤ length ks
below_within n ks = placed_within (placing n ks)

-- A number that stands among rising ones stands at its place, and what is found at its place stands there.
put_found : {n i : ℕ} {ks ls : List ℕ} → Placing n ks i ls → Rising ks → In n ks → (i < length ks) × (get_or ks i 0 ≡ n)
unfolding Rising In
put_found last r h = absurd h
put_found (before l) r (inl e) = absurd (omega arith)
put_found (before l) r (inr h) = absurd (omega (arith, each_in (λ x. _ < x) _ _ r.0 h))
put_found (there e) r h = (omega arith, e)
put_found (behind l p) r (inl e) = absurd (omega arith)
put_found (behind l p) r (inr h) = let found = put_found p r.1 h in (omega arith, found.1)

pub stands_at : (n : ℕ) (ks : List ℕ) → Rising ks → In n ks → (below n ks < length ks) × (get_or ks (below n ks) 0 ≡ n)
stands_at n ks = put_found (placing n ks)

pub found_stands : (n : ℕ) (ks : List ℕ) → below n ks < length ks → get_or ks (below n ks) 0 ≡ n → In n ks
found_stands n ks l e = subst (λ x. In x ks) e (in_rest 0 ks 0 (below n ks) (omega arith) l)

-- That numbers rise has at most one proof.
all_prop : (P : ℕ → Type 0) → ((k : ℕ) → IsProp (P k)) → (ks : List ℕ) → IsProp (All P ks)
unfolding All
all_prop P each [] = Unit-prop
all_prop P each (k ∷ ks) = ×_prop (each k) (all_prop P each ks)

pub rising_prop : (ks : List ℕ) → IsProp (Rising ks)
unfolding Rising
rising_prop [] = Unit-prop
rising_prop (k ∷ ks) = ×_prop (all_prop (λ x. k < x) (λ x. le_prop) ks) (rising_prop ks)
