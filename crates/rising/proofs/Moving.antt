-- With those from a place on moved up by one, a number that is stored at the place is one more among them.
use Prim.Native.Nat.{ℕ, zero, suc, ◌+◌, ◌-◌, ◌≤◌, ◌<◌}
use mathlib.Core.Path.{◌≡◌, refl, ap, ◌∙◌}
use mathlib.Core.List.{List, [], ◌∷◌, ◌++◌}
use native.Mathlib.Omega.{arith}
use native.Mathlib.Numerals.{add-one}
use lib.ListN.{length, take, drop, set, length-drop}
use lib.Seq.{paste, take-paste, take-set-lt}
use Rattle.rising.specs.Rising.{with_at}

-- The first ones up to the place, and behind them more from the place on: the number goes over the last of the first.
over_last : (xs : List ℕ) (count place more n : ℕ) → count ≡ place + more → count < length xs
    → set (take (suc place) xs ++ take more (drop place xs)) place n ≡ with_at (take count xs) place n
over_last [] count place more n e l = absurd (omega arith)
over_last (x ∷ xs) count zero more n e l = let same : count ≡ more = omega arith in rw same refl
over_last (x ∷ xs) zero (suc place) more n e l = absurd (omega arith)
over_last (x ∷ xs) (suc count) (suc place) more n e l = ap (λ ks. x ∷ ks) (over_last xs count place more n (omega arith) (omega arith))

pub put_behind : (xs : List ℕ) (count place n : ℕ) → place ≤ count → count < length xs
    → take (count + 1) (set (paste xs (place + 1) (drop place xs) (count - place)) place n) ≡ with_at (take count xs) place n
put_behind xs count place n l m =
    let moved = paste xs (place + 1) (drop place xs) (count - place) in
    let end : count + 1 ≡ suc place + (count - place) = omega arith in
    let pasted = take-paste xs (suc place) (drop place xs) (count - place) (omega arith) (omega (arith, length-drop place xs)) in
    take-set-lt (count + 1) moved place n (omega arith)
    ∙ ap (λ ks. set ks place n) (rw (end, add-one) pasted)
    ∙ over_last xs count place (count - place) n (omega arith) m
