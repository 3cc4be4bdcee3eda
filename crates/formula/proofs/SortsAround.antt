-- The sorts around a place are a row read from its last element back: as many as binders are counted, by their indices, and one more under
-- one binder more.
use Prim.Native.Nat.{ℕ, ◌+◌, ◌-◌, ◌≤◌, ◌<◌}
use mathlib.Core.Path.{◌≡◌, ap, ◌∙◌}
use mathlib.Core.List.{List, ◌∷◌}
use Rattle.std.specs.Prelude.{None, Some}
use native.Mathlib.Omega.{arith}
use lib.ListN.{length, get_or, set}
use lib.Seq.{get_or-set_same, get_or-set_other}
use Rattle.procap.specs.Lists.{nth}
use Rattle.bl.specs.declared.Sort.{Sort}
use Rattle.bl.specs.declared.Sort.TheVariants.{Names}
use Rattle.formula.specs.Binders.{sorts_of}
use Rattle.formula.proofs.Stacks.{stack_length, nth_stack, nth_stack_none, stack_more}

module _ (sorts : List Sort) (count : ℕ) where
  pub sorts_length : length (sorts_of sorts count) ≡ count
  unfolding sorts_of
  sorts_length = stack_length _ count

  pub sort_at : (i : ℕ) → i < count → nth (sorts_of sorts count) i ≡ Some (get_or sorts (count - 1 - i) Names)
  unfolding sorts_of
  sort_at i l = nth_stack _ count i l ∙ ap (λ k. Some (get_or sorts k Names)) (omega arith)

  pub no_sort_at : (i : ℕ) → count ≤ i → nth (sorts_of sorts count) i ≡ None
  unfolding sorts_of
  no_sort_at i l = nth_stack_none _ count i l

  pub sorts_more : (s : Sort) → count < length sorts → sorts_of (set sorts count s) (count + 1) ≡ (s ∷ sorts_of sorts count)
  unfolding sorts_of
  sorts_more s l =
      stack_more _ _ count s (get_or-set_same sorts count s Names l) (λ i m. get_or-set_other sorts count i s Names (λ e. omega arith))
