-- Numbers stored right after others are stored with them.
use Prim.Native.Nat.{ℕ, suc, ◌+◌}
use mathlib.Core.Path.{◌≡◌}
use mathlib.Core.List.{List, [], ◌∷◌, ◌++◌}
use lib.ListN.{length, set}
use lib.Seq.{sets}
use native.Mathlib.Nat.{add-zero, add-suc, suc-add}

pub sets_after : (l : List ℕ) (at : ℕ) (xs ys : List ℕ) → sets (sets l at xs) (at + length xs) ys ≡ sets l at (xs ++ ys)
sets_after l at [] ys = rw add-zero
sets_after l at (x ∷ xs) ys = rw (add-suc, ← suc-add) (sets_after (set l at x) (suc at) xs ys)
