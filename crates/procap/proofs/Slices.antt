-- What `all` and `any` over a slice answer, where each call of the closure tells whether its element is so.
use Prim.Native.Nat.{ℕ, zero, suc, ◌<◌}
use mathlib.Core.Bool.{Bool, true, false}
use mathlib.Core.List.{List, [], ◌∷◌, map}
use mathlib.Core.Logic.{inl, inr}
use mathlib.Core.Path.{◌≡◌, ap}
use denote.Ref.{Bor}
use denote.Param.Members.{Mut}
use lib.ListN.{length, get_or}
use native.Mathlib.Omega.{arith}
use Rattle.std.specs.Bool.{MatchBool}
use Rattle.std.specs.Fn.{Called}
use Rattle.std.specs.Iterator.{YieldsThen, AlwaysYields}
use Rattle.std.specs.List.{FoldsTo, AllWithin, HoldsAt}
use Rattle.std.specs.Option.{MatchOption}
use Rattle.std.specs.Prelude.{Option}
use Rattle.std.specs.Slice.Iter.{iter_rest}
use Rattle.std.proofs.Common.{Iter}
use Rattle.std.proofs.iter.Yields.{fronts}
use Rattle.std.proofs.lemmas.Iterator.{YieldsList, YieldsList-from_slice, cases_from_all, cases_from_any}
use Rattle.procap.specs.Tells.{Tells}
use Rattle.procap.specs.Lists.{All, In}
use Rattle.procap.proofs.Indices.{all_from, all_at}

module _ {A : Type 0} (P : A → Type 0) where
  all_within : (xs : List A) → AllWithin P xs 0 (length xs) → All P xs
  unfolding All
  all_within [] h = tt
  all_within (x ∷ xs) h = all_from P x (x ∷ xs) (λ k l. h k x (omega arith) l)

  one_fails : (xs : List A) (k : ℕ) → k < length xs → HoldsAt (λ x. P x → ⊥) xs k → All P xs → ⊥
  one_fails [] k l n h = absurd (omega arith)
  one_fails (x ∷ xs) k l n h = n x (all_at P x (x ∷ xs) k l h)

  tells_all : (r : Bool) (xs : List A)
      → MatchBool r (AllWithin P xs 0 (length xs)) ((k : ℕ) × (k < length xs) × HoldsAt (λ x. P x → ⊥) xs k) → Tells r (All P xs)
  tells_all true xs h = all_within xs h
  tells_all false xs (k, l, n) = one_fails xs k l n

module _ {A B : Type 0} (f : A → B) (b : B) where
  in_at : (d : A) (xs : List A) (k : ℕ) → k < length xs → b ≡ f (get_or xs k d) → In b (map f xs)
  unfolding In
  in_at d [] k l e = absurd (omega arith)
  in_at d (x ∷ xs) zero l e = inl e
  in_at d (x ∷ xs) (suc k) l e = inr (in_at d xs k (omega arith) e)

  none_in : (xs : List A) → All (λ x. b ≡ f x → ⊥) xs → In b (map f xs) → ⊥
  unfolding In All
  none_in [] h i = i
  none_in (x ∷ xs) h (inl e) = h.0 e
  none_in (x ∷ xs) h (inr i) = none_in xs h.1 i

  tells_any : (r : Bool) (xs : List A)
      → MatchBool r ((k : ℕ) × (k < length xs) × HoldsAt (λ x. b ≡ f x) xs k) (AllWithin (λ x. b ≡ f x → ⊥) xs 0 (length xs))
      → Tells r (In b (map f xs))
  tells_any true [] (k, l, e) = absurd (omega arith)
  tells_any true (x ∷ xs) (k, l, e) = in_at x (x ∷ xs) k l (e x)
  tells_any false xs h = none_in xs (all_within (λ x. b ≡ f x → ⊥) xs h)

-- A closure that is at every call what it was and tells of its element whether P is so of it.
abbrev pub TellsOf : {A F : Type 0} → (A → Type 0) → Mut F (Bor A × Unit {0}) Bool → F → Type 0
TellsOf {A} {F} P g f = (x : Bor A) (b : Bool) (q : F) → Called g f (x, tt) b q → (q ≡ f) × Tells b (P x.now)

module _ {A F : Type 0} {g : Mut F (Bor A × Unit {0}) Bool} {s u : Iter A} {f : F} {r : Bool} (xs : List A) where
  -- `all` tells whether all are so.
  pub all_told : (P : A → Type 0) → iter_rest s ≡ xs → TellsOf P g f
      → (ys : List (Bor A)) × (o : Option (Bor A)) × (j : F) × YieldsThen fronts s ys o u × FoldsTo (λ p x q. Called g p (x, tt) true q) f ys j
      × MatchOption o (r ≡ true) (λ x. (r ≡ false) × ((h : F) × Called g j (x, tt) false h))
      → Tells r (All P xs)
  all_told P e t ran =
      tells_all P r xs
      (cases_from_all u f r P (λ x. P x → ⊥) ran (YieldsList-from_slice xs e) (λ x q k. t x true q k) (λ x q k. (t x false q k).1))

  -- `any` tells whether something stands in what is made of the elements.
  pub any_told : {B : Type 0} (h : A → B) (b : B) → iter_rest s ≡ xs → TellsOf (λ x. b ≡ h x) g f
      → (ys : List (Bor A)) × (o : Option (Bor A)) × (j : F) × YieldsThen fronts s ys o u × FoldsTo (λ p x q. Called g p (x, tt) false q) f ys j
      × MatchOption o (r ≡ false) (λ x. (r ≡ true) × ((h : F) × Called g j (x, tt) true h))
      → Tells r (In b (map h xs))
  any_told h b e t ran =
      tells_any h b r xs
      (cases_from_any u f r (λ x. b ≡ h x) (λ x. b ≡ h x → ⊥) ran (YieldsList-from_slice xs e) (λ x q k. (t x true q k).1) (λ x q k. t x false q k))

-- What is made of each item that a chain gives is what is made of the list.
module _ {S A B C : Type 0} (steps : S → Option A → S → Type 0) (v : A → B) (h : B → C) where
  made_of : (s : S) (ys : List B) → AlwaysYields steps v s ys → AlwaysYields steps (λ x. h (v x)) s (map h ys)
  made_of s [] r = r
  made_of s (y ∷ ys) r = (r.0, λ x j t. (ap h (r.1 x j t).0, made_of j ys (r.1 x j t).1))

pub yields_made : {S A B C : Type 0} {steps : S → Option A → S → Type 0} {v : A → B} {s : S} {ys : List B} (h : B → C) → YieldsList steps v s ys
    → YieldsList steps (λ x. h (v x)) s (map h ys)
yields_made {steps = steps} {v = v} h y = record { runs = made_of steps v h _ _ y.runs }
