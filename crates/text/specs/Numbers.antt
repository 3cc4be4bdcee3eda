-- [Text] Decimal numbers: how one is spelled, and what a run of digits says.
use Rattle.std.specs.Prelude.{ℕ, zero, suc, ◌+◌, ◌-◌, ◌*◌, ◌/◌, ◌%◌, Bool, true, false, not, ◌&&◌, List, [], ◌∷◌, ◌++◌, leb, ltb, eqb}
use Prim.Native.Char.{code}
use Rattle.procap.specs.Tells.{pick}

-- The byte of the digit 0; those of 1 to 9 follow it.
abbrev pub digit_zero : ℕ
digit_zero = code "0"

-- How many digits are enough for every number of 64 bits.
abbrev pub most_digits : ℕ
most_digits = 20

-- The digits of a number, so many at the most: those of its tenth, and then its last one.
unfoldable pub digits_of : ℕ → ℕ → List ℕ
digits_of zero n = []
digits_of (suc k) n = pick (ltb n 10) ((digit_zero + n) ∷ []) (digits_of k (n / 10) ++ ((digit_zero + n % 10) ∷ []))

-- [Text] A number as it is spelled.
unfoldable pub decimal : ℕ → List ℕ
decimal n = digits_of most_digits n

-- The byte is a digit.
unfoldable pub is_digit : ℕ → Bool
is_digit b = leb digit_zero b && leb b (digit_zero + 9)

-- The digits with which a list begins.
unfoldable pub while_digit : Bool → ℕ → List ℕ → List ℕ
while_digit true b ds = b ∷ ds
while_digit false b ds = []

unfoldable pub leading_digits : List ℕ → List ℕ
leading_digits [] = []
leading_digits (b ∷ bs) = while_digit (is_digit b) b (leading_digits bs)

-- The value of some digits, the highest first, after what is read before them.
unfoldable pub value : ℕ → List ℕ → ℕ
value n [] = n
value n (d ∷ ds) = value (n * 10 + (d - digit_zero)) ds

-- [Text] One digit, or several of which the first is no zero.
unfoldable pub one_spelling : List ℕ → Bool
one_spelling [] = false
one_spelling (d ∷ []) = true
one_spelling (d ∷ e ∷ ds) = not (eqb d digit_zero)
