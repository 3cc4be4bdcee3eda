-- Laws of values in a row, and of places that are filled with them one by one: so the records, the pairs, the terms of a fact and the facts of
-- a value are read.
use Prim.Native.Nat.{ℕ, zero, suc, ◌+◌, ◌*◌, ◌≤◌, ◌<◌}
use mathlib.Core.Path.{◌≡◌, refl, sym, ap, ap₂, ◌∙◌}
use mathlib.Core.List.{List, [], ◌∷◌, ◌++◌}
use native.Mathlib.Nat.{mul-suc}
use native.Mathlib.Numerals.{add-one}
use native.Mathlib.Omega.{arith}
use native.Mathlib.Decide.{dec_le}
use lib.ListN.{length, take, set, length-set}
use lib.Seq.{take_all, take_at, length-take-le, take-suc-set}
use Rattle.from_c.specs.InARow.{in_a_row, how_many}
use borrow.Author.Tests.{eq-eqb, ne_eqb}
use Rattle.std.specs.Prelude.{min, ◌%◌}
use Rattle.std.specs.Int.{div_ceil}

module _ {A : Type 0} (value : ℕ → A) (step : ℕ) where
  -- There are so many.
  row_length : (n at : ℕ) → length (in_a_row value step n at) ≡ n
  unfolding in_a_row
  row_length zero at = refl
  row_length (suc n) at = ap suc (row_length n (at + step))

  -- One value more stands after the others.
  row_more : (n at : ℕ) → in_a_row value step (suc n) at ≡ in_a_row value step n at ++ (value (at + step * n) ∷ [])
  unfolding in_a_row
  row_more zero at = ap (λ k. value k ∷ []) (omega arith)
  row_more (suc n) at =
      ap (λ xs. value at ∷ xs) (row_more n (at + step) ∙ ap (λ k. in_a_row value step n (at + step) ++ (value k ∷ [])) place)
    where
      place : at + step + step * n ≡ at + step * suc n
      place = rw mul-suc (omega arith)

  -- The first k of at least as many are k in a row.
  first_in_a_row : (k n at : ℕ) → k ≤ n → take k (in_a_row value step n at) ≡ in_a_row value step k at
  unfolding in_a_row
  first_in_a_row zero n at l = refl
  first_in_a_row (suc k) zero at l = absurd (omega arith)
  first_in_a_row (suc k) (suc n) at l = ap (λ xs. value at ∷ xs) (first_in_a_row k n (at + step) (omega arith))

-- How many there are is the quotient, rounded up.
how_many_up : (each n : ℕ) → how_many each n ≡ div_ceil n each
how_many_up each n = elim (dec_le (n % each) 0) [ yes e ↦ rw (eq-eqb (n % each) 0 (omega (arith, e))) (omega (arith, e)) | no k ↦ rw (ne_eqb (n % each) 0 (omega (arith, k))) (omega (arith, k)) ]

module _ {A : Type 0} (value : ℕ → A) (each : ℕ) where
  -- As many as there are, but no more than so many, are the first of all of them.
  first_of_all : (all most : ℕ) → in_a_row value each (min all most) 0 ≡ take most (in_a_row value each all 0)
  first_of_all all most = by (dec_le all most)
    where
      by : Dec (all ≤ most) → in_a_row value each (min all most) 0 ≡ take most (in_a_row value each all 0)
      by (yes l) =
          let same : min all most ≡ all = omega arith in
          ap (λ k. in_a_row value each k 0) same ∙ sym (take_all most (in_a_row value each all 0) (omega (arith, row_length value each all 0)))
      by (no l) =
          let same : min all most ≡ most = omega arith in
          ap (λ k. in_a_row value each k 0) same ∙ sym (first_in_a_row value each most all 0 (omega arith))

  -- So are as many as the bytes have, by the quotient rounded up.
  pub first_lent : (n most count : ℕ) → count ≡ min (div_ceil n each) most
      → in_a_row value each count 0 ≡ take most (in_a_row value each (how_many each n) 0)
  first_lent n most count e = rw (e, ← how_many_up each n) (first_of_all (how_many each n) most)

  -- They stand at the front of what they were put into.
  pub put_first : (xs rest : List A) (count at : ℕ) (none : List A) → count ≤ length none → xs ≡ in_a_row value each (length (take count none)) at
      → take count (xs ++ rest) ≡ in_a_row value each count at
  put_first xs rest count at none l put =
      let room : length (take count none) ≡ count = length-take-le count none l in
      let row : xs ≡ in_a_row value each count at = put ∙ ap (λ k. in_a_row value each k at) room in
      take_at xs rest count (ap length row ∙ row_length value each count at) ∙ row

-- The first i of n places are the values in a row from a place on.
pub record Filled {A : Type 0} (value : ℕ → A) (step n at : ℕ) (array : List A) (i : ℕ) : Type 0 where
  pub whole : length array ≡ n
  pub front : take i array ≡ in_a_row value step i at

module _ {A : Type 0} {value : ℕ → A} {step n at : ℕ} {array : List A} where
  -- None yet.
  pub none_filled : length array ≡ n → Filled value step n at array 0
  unfolding in_a_row
  none_filled e = record { whole = e; front = refl }

  module _ {i : ℕ} (h : Filled value step n at array i) where
    -- One more, stored after the others.
    pub one_filled : (x : A) → i < n → x ≡ value (at + step * i) → Filled value step n at (set array i x) (i + 1)
    one_filled x l e = record { whole = length-set array i x ∙ h.whole; front = rw add-one stored }
      where
        stored : take (suc i) (set array i x) ≡ in_a_row value step (suc i) at
        stored =
            take-suc-set array i x (omega (arith, h.whole))
            ∙ ap₂ (λ xs y. xs ++ (y ∷ [])) h.front e
            ∙ sym (row_more value step i at)

    -- All of them.
    pub all_filled : n ≤ i → array ≡ in_a_row value step n at
    all_filled l = all ∙ ap (λ k. in_a_row value step k at) (sym (row_length value step i at) ∙ ap length (sym all) ∙ h.whole)
      where
        all : array ≡ in_a_row value step i at
        all = sym (take_all i array (omega (arith, h.whole))) ∙ h.front
