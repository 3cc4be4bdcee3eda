-- How many stand before the zeros of an array: what a list of facts is told by.
use Rattle.std.specs.Prelude.{ℕ, ◌+◌, ◌-◌, ◌≤◌, ◌≡◌, List, length, take, replicate}
use Rattle.std.proofs.Common.{sym, ap, subst, ◌∙◌, le_trans, add-sub_of_le}
use Rattle.std.proofs.Math.Nat.{min-le_left}
use Rattle.std.proofs.lemmas.List.{length-append, length-replicate, length-take, length-take-le}
use Rattle.procap.specs.Lists.{pad, ZerosPast}

module _ {A : Type 0} (n : ℕ) (z : A) (k : ℕ) (xs : List A) (few : k ≤ n) where
  -- No more than n are taken.
  first_few : length (take k xs) ≤ n
  first_few = subst (λ m. m ≤ n) (sym (length-take k xs)) (le_trans (min-le_left k (length xs)) few)

  -- With zeros past them there are n in all,
  pub all_stand : ZerosPast n z k xs → length xs ≡ n
  unfolding pad
  all_stand rest =
      ap length rest
      ∙ length-append (take k xs) (replicate (n - length (take k xs)) z)
      ∙ ap (λ m. length (take k xs) + m) (length-replicate (n - length (take k xs)) z)
      ∙ add-sub_of_le first_few

  -- and so many before the zeros as are counted.
  pub first_stand : ZerosPast n z k xs → length (take k xs) ≡ k
  first_stand rest = length-take-le k xs (subst (λ m. k ≤ m) (sym (all_stand rest)) few)
