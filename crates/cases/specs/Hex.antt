-- [Program] Bytes in lower-case hex: two digits for each, the high one first.
use Rattle.std.specs.Prelude.{ℕ, ◌+◌, ◌-◌, ◌*◌, ◌%◌, Bool, ◌&&◌, ◌||◌, List, [], ◌∷◌, length, leb, eqb}
use Prim.Native.Char.{code}
use Rattle.procap.specs.Tells.{pick}
use Rattle.text.specs.Numbers.{digit_zero, is_digit, while_digit}

-- [Program; D59] The byte is one of a to f: capitals are no digits.
unfoldable pub is_letter : ℕ → Bool
is_letter b = leb (code "a") b && leb b (code "f")

-- The byte is a hex digit.
unfoldable pub is_hex : ℕ → Bool
is_hex b = is_digit b || is_letter b

-- What a hex digit says.
unfoldable pub hex_value : ℕ → ℕ
hex_value b = pick (is_digit b) (b - digit_zero) (10 + (b - code "a"))

-- The hex digits with which a list begins.
unfoldable pub leading_hex : List ℕ → List ℕ
leading_hex [] = []
leading_hex (b ∷ bs) = while_digit (is_hex b) b (leading_hex bs)

-- The digits can be taken two by two.
unfoldable pub in_pairs : List ℕ → Bool
in_pairs ds = eqb (length ds % 2) 0

-- The bytes that pairs of digits say.
unfoldable pub paired : List ℕ → List ℕ
paired [] = []
paired (d ∷ []) = []
paired (d ∷ e ∷ ds) = (hex_value d * 16 + hex_value e) ∷ paired ds
