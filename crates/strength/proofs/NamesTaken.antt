-- Numbers that rise, put one after another, come to themselves, and they are left behind their count.
use Prim.Native.Nat.{ℕ, zero, suc, ◌+◌, ◌-◌, ◌<◌}
use mathlib.Core.Path.{◌≡◌, refl, ap, ◌∙◌}
use mathlib.Core.List.{List, [], ◌∷◌, ◌++◌, append-nil}
use native.Mathlib.Omega.{arith}
use borrow.Author.Tests.{lt-ltb}
use lib.ListN.{length, get_or, take, drop, set}
use borrow.Rule.Slice.PartMut.{put_mid}
use Rattle.std.proofs.lemmas.List.{drop_all}
use Rattle.procap.proofs.Indices.{all_at}
use Rattle.rising.specs.Rising.{Rising, insert}

-- The number at an index goes to the end of those before it.
pub next_put : (ks : List ℕ) (i : ℕ) → Rising ks → i < length ks → insert (get_or ks i 0) (take i ks) ≡ take (suc i) ks
unfolding Rising insert
next_put [] i r l = absurd (omega arith)
next_put (k ∷ ks) zero r l = refl
next_put (k ∷ ks) (suc i) r l =
    let inside : i < length ks = omega arith in
    rw (lt-ltb k (get_or ks i 0) (all_at (λ x. k < x) 0 ks i inside r.0)) (ap (λ ls. k ∷ ls) (next_put ks i r.1 inside))

-- The names are those passed, where all of them rise.
abbrev pub Passed : List ℕ → ℕ → List ℕ → Type 0
Passed ks i standing = Rising ks → standing ≡ take i ks

pub one_passed : (ks standing more : List ℕ) (i : ℕ) → i < length ks → Passed ks i standing → more ≡ insert (get_or ks i 0) standing → Passed ks (i + 1) more
one_passed ks standing more i l p e r = let next : suc i ≡ i + 1 = omega arith in e ∙ ap (insert (get_or ks i 0)) (p r) ∙ next_put ks i r l ∙ ap (λ n. take n ks) next

-- Names put behind their count are all that there is.
pub behind_count : (numbers part : List ℕ) (count : ℕ) → 0 < length numbers → put_mid 1 (length (set numbers 0 count) - 1) (set numbers 0 count) part ≡ count ∷ part
behind_count [] part count l = absurd (omega arith)
behind_count (n ∷ ns) part count l =
    let none : drop (length (count ∷ ns) - 1) ns ≡ [] = drop_all (length (count ∷ ns) - 1) ns (omega arith) in
    ap (λ rest. count ∷ (part ++ rest)) none ∙ ap (λ rest. count ∷ rest) (append-nil part)
