-- Laws of a row read from its last element back: how many there are, what stands at an index, and what one element more makes of it.
use Prim.Native.Nat.{ℕ, zero, suc, ◌+◌, ◌-◌, ◌≤◌, ◌<◌}
use mathlib.Core.Path.{◌≡◌, refl, ap, ap₂, ◌∙◌}
use mathlib.Core.List.{◌∷◌}
use Rattle.std.specs.Prelude.{None, Some}
use native.Mathlib.Numerals.{add-one}
use native.Mathlib.Omega.{arith}
use lib.ListN.{length}
use Rattle.procap.specs.Lists.{nth}
use Rattle.formula.specs.PutIn.{stack}

module _ {A : Type 0} (f : ℕ → A) where
  -- There are as many as are taken.
  pub stack_length : (n : ℕ) → length (stack f n) ≡ n
  unfolding stack
  stack_length zero = refl
  stack_length (suc n) = ap suc (stack_length n)

  -- At an index stands the element so far back from the last, and none past the first.
  pub nth_stack : (n i : ℕ) → i < n → nth (stack f n) i ≡ Some (f (n - i - 1))
  unfolding stack nth
  nth_stack zero i l = absurd (omega arith)
  nth_stack (suc n) zero l = ap (λ k. Some (f k)) (omega arith)
  nth_stack (suc n) (suc i) l = nth_stack n i (omega arith) ∙ ap (λ k. Some (f k)) (omega arith)

  pub nth_stack_none : (n i : ℕ) → n ≤ i → nth (stack f n) i ≡ None
  unfolding stack nth
  nth_stack_none zero i l = refl
  nth_stack_none (suc n) zero l = absurd (omega arith)
  nth_stack_none (suc n) (suc i) l = nth_stack_none n i (omega arith)

module _ {A : Type 0} (f g : ℕ → A) where
  -- Two rows that agree below n are the same there.
  stack_same : (n : ℕ) → ((i : ℕ) → i < n → f i ≡ g i) → stack f n ≡ stack g n
  unfolding stack
  stack_same zero h = refl
  stack_same (suc n) h = ap₂ ◌∷◌ (h n (omega arith)) (stack_same n (λ i l. h i (omega arith)))

  -- One element more, after those that stay.
  pub stack_more : (n : ℕ) (x : A) → f n ≡ x → ((i : ℕ) → i < n → f i ≡ g i) → stack f (n + 1) ≡ (x ∷ stack g n)
  unfolding stack
  stack_more n x e h = rw add-one (ap₂ ◌∷◌ e (stack_same n h))
