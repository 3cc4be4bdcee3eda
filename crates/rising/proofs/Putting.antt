-- A number that is found at its place stands there already, and any other is one more there.
use Prim.Native.Nat.{ℕ, ◌+◌, ◌<◌}
use mathlib.Core.Path.{◌≡◌, refl, sym, ap, ◌∙◌}
use mathlib.Core.List.{List, ◌∷◌}
use native.Mathlib.Omega.{arith}
use lib.ListN.{length, get_or, take}
use lib.Seq.{length-take-le, get_or-take}
use Rattle.rising.specs.Rising.{Rising, insert, with_at, CountsBelow, Puts}
use Rattle.rising.proofs.Placing.{Placing, last, before, there, behind, placing}

-- What comes of it where the number is found at its place, and where it is not.
put_there : {n i : ℕ} {ks ls : List ℕ} → Placing n ks i ls → i < length ks → get_or ks i 0 ≡ n → ls ≡ ks
put_there last b e = absurd (omega arith)
put_there (before l) b e = absurd (omega arith)
put_there (there q) b e = refl
put_there (behind {k = k} l p) b e = ap (λ xs. k ∷ xs) (put_there p (omega arith) e)

put_new : {n i : ℕ} {ks ls : List ℕ} → Placing n ks i ls → (i < length ks → get_or ks i 0 ≡ n → ⊥) → ls ≡ with_at ks i n
put_new last d = refl
put_new (before l) d = refl
put_new (there q) d = absurd (d (omega arith) q)
put_new (behind {k = k} l p) d = ap (λ xs. k ∷ xs) (put_new p (λ b e. d (omega arith) e))

module _ (numbers : List ℕ) (count number place : ℕ) (room : count < length numbers) (placed : CountsBelow numbers count number place) where
  first : length (take count numbers) ≡ count
  first = length-take-le count numbers (omega arith)

  -- The place that was found is that of the number.
  at_place : Rising (take count numbers) → Placing number (take count numbers) place (insert number (take count numbers))
  at_place rise = rw (placed (omega arith) rise) (placing number (take count numbers))

  -- What is found at the place stands there, so that all is as it was.
  pub puts_nothing : place < count → get_or numbers place 0 ≡ number → Puts numbers numbers count number count
  puts_nothing inside found _ rise = (sym same, sym first ∙ ap length (sym same))
    where
      same : insert number (take count numbers) ≡ take count numbers
      same = put_there (at_place rise) (omega (arith, first)) (get_or-take count numbers place 0 inside ∙ found)

  -- What is not found there is put.
  pub puts_one : (later : List ℕ) → (place < count → get_or numbers place 0 ≡ number → ⊥) → length later ≡ length numbers
      → take (count + 1) later ≡ with_at (take count numbers) place number → Puts numbers later count number (count + 1)
  puts_one later absent kept put _ rise = (more, sym (length-take-le (count + 1) later (omega arith)) ∙ ap length more)
    where
      none : place < count → get_or (take count numbers) place 0 ≡ number → ⊥
      none inside e = absent inside (sym (get_or-take count numbers place 0 inside) ∙ e)

      more : take (count + 1) later ≡ insert number (take count numbers)
      more = put ∙ sym (put_new (at_place rise) (λ b e. none (omega (arith, first)) e))
