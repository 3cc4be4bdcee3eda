-- Numbers in strictly rising order at the front of a list.
use Rattle.std.specs.Prelude.{ℕ, suc, ◌≤◌, ◌<◌, ◌≡◌, List, [], ◌∷◌, ◌++◌, ltb, eqb, length, take, drop}
use Rattle.procap.specs.Tells.{pick}
use Rattle.procap.specs.Lists.{All}

-- Each of these is above n.
abbrev pub Above : ℕ → List ℕ → Type 0
Above n ks = All (λ k. n < k) ks

-- The numbers rise strictly.
unfoldable pub Rising : List ℕ → Type 0
Rising [] = Unit {0}
Rising (k ∷ ks) = Above k ks × Rising ks

-- How many at the front are below the number.
unfoldable pub below : ℕ → List ℕ → ℕ
below n [] = 0
below n (k ∷ ks) = pick (ltb k n) (suc (below n ks)) 0

-- One number more, in its place; one that stands there is not put twice.
unfoldable pub insert : ℕ → List ℕ → List ℕ
insert n [] = n ∷ []
insert n (k ∷ ks) = pick (ltb k n) (k ∷ insert n ks) (pick (eqb k n) (k ∷ ks) (n ∷ k ∷ ks))

-- One number more, at an index.
abbrev pub with_at : List ℕ → ℕ → ℕ → List ℕ
with_at ks i n = take i ks ++ n ∷ drop i ks

-- Where the first numbers rise, this is how many of them are below the number.
abbrev pub CountsBelow : List ℕ → ℕ → ℕ → ℕ → Type 0
CountsBelow numbers count number r = count ≤ length numbers → Rising (take count numbers) → r ≡ below number (take count numbers)

-- Where the first numbers rise and have room behind them, the number is put among them, and this is how many they are then.
abbrev pub Puts : List ℕ → List ℕ → ℕ → ℕ → ℕ → Type 0
Puts numbers later count number r =
    count < length numbers
    → Rising (take count numbers)
    → (take r later ≡ insert number (take count numbers)) × (r ≡ length (insert number (take count numbers)))
