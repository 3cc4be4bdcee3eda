-- Laws of hex digits: which bytes they are and what they say, and those with which the bytes from a place on begin.
use Prim.Native.Nat.{ℕ, suc, ◌+◌, ◌-◌, ◌≤◌, ◌<◌}
use mathlib.Core.Bool.{Bool, true, false, ◌||◌, and-eq-true_iff}
use mathlib.Core.Path.{◌≡◌, refl, ap, ◌∙◌}
use mathlib.Core.List.{List, [], ◌∷◌}
use Rattle.std.specs.Prelude.{None, Option, Some}
use native.Mathlib.Numerals.{add-one}
use native.Mathlib.Omega.{arith}
use lib.ListN.{length, drop, get_or, drop_of_length-le}
use lib.Seq.{drop-cons}
use lib.Dec.{leb}
use borrow.Author.Tests.{leb-true, le-leb, lt-leb}
use Rattle.procap.specs.Tells.{pick}
use Rattle.procap.specs.Lists.{All}
use Rattle.text.specs.Numbers.{is_digit, while_digit}
use Rattle.cases.specs.Hex.{is_letter, is_hex, hex_value, leading_hex}
use Rattle.cases.specs.Found.{DigitSays, DigitReads}

-- ── A byte ──

module _ (b : ℕ) where
  -- A byte from '0' to '9', and one from 'a' to 'f', is a digit.
  pub decimal_digit : 48 ≤ b → b ≤ 57 → DigitSays b (Some (b - 48))
  unfolding is_hex is_digit hex_value
  decimal_digit low high = (rw (le-leb 48 b low, le-leb b 57 high), rw (le-leb 48 b low, le-leb b 57 high), omega arith)

  pub letter_digit : 97 ≤ b → b ≤ 102 → DigitSays b (Some (10 + (b - 97)))
  unfolding is_hex is_digit is_letter hex_value
  letter_digit low high =
      let past = le-leb 48 b (omega arith) in
      let no = lt-leb b 57 (omega arith) in
      (rw (past, no, le-leb 97 b low, le-leb b 102 high), rw (past, no), omega arith)

  -- Any other byte is none.
  pub no_hex_below : b < 48 → DigitSays b None
  unfolding is_hex is_digit is_letter
  no_hex_below h = rw (lt-leb 48 b h, lt-leb 97 b (omega arith))

  pub no_hex_between : 57 < b → b < 97 → DigitSays b None
  unfolding is_hex is_digit is_letter
  no_hex_between low high = rw (le-leb 48 b (omega arith), lt-leb b 57 low, lt-leb 97 b high)

  pub no_hex_above : 102 < b → DigitSays b None
  unfolding is_hex is_digit is_letter
  no_hex_above h =
      rw (le-leb 48 b (omega arith), lt-leb b 57 (omega arith), le-leb 97 b (omega arith), lt-leb b 102 h)

-- The byte is a hex digit.
abbrev pub IsHex : ℕ → Type 0
IsHex b = is_hex b ≡ true

-- A digit of the one kind is at most '9', and one of the other at most 'f'.
digit_to : (b : ℕ) → is_digit b ≡ true → b ≤ 57
unfolding is_digit
digit_to b h = leb-true b 57 ((and-eq-true_iff (leb 48 b) (leb b 57)).0 h).1

letter_to : (b : ℕ) → is_letter b ≡ true → b ≤ 102
unfolding is_letter
letter_to b h = leb-true b 102 ((and-eq-true_iff (leb 97 b) (leb b 102)).0 h).1

-- What a digit says is below 16.
pub hex_value_below : (b : ℕ) → IsHex b → hex_value b < 16
unfolding is_hex hex_value
hex_value_below b h = by (is_digit b) refl h
  where
    by : (t : Bool) → is_digit b ≡ t → (t || is_letter b) ≡ true → pick t (b - 48) (10 + (b - 97)) < 16
    by true e k = omega (arith, digit_to b e)
    by false e k = omega (arith, letter_to b k)

-- ── The digits with which a list begins ──

-- A list begins with no digits, or with its first and those of the rest.
leading_by_first : (P : List ℕ → Type 0) (b : ℕ) (bs : List ℕ) → (IsHex b → P (b ∷ leading_hex bs)) → P [] → P (leading_hex (b ∷ bs))
unfolding leading_hex while_digit
leading_by_first P b bs one none = by (is_hex b) refl
  where
    by : (t : Bool) → is_hex b ≡ t → P (while_digit t b (leading_hex bs))
    by true e = one e
    by false e = none

-- They are digits.
pub leading_are_hex : (bs : List ℕ) → All IsHex (leading_hex bs)
unfolding leading_hex All
leading_are_hex [] = tt
leading_are_hex (b ∷ bs) = leading_by_first (All IsHex) b bs (λ e. (e, leading_are_hex bs)) tt

-- The first byte is one of them where it is a digit, and there are none where it is not.
leading_one : (b : ℕ) (bs : List ℕ) → is_hex b ≡ true → leading_hex (b ∷ bs) ≡ b ∷ leading_hex bs
unfolding leading_hex while_digit
leading_one b bs e = rw e

pub leading_none : (b : ℕ) (bs : List ℕ) → is_hex b ≡ false → leading_hex (b ∷ bs) ≡ []
unfolding leading_hex while_digit
leading_none b bs e = rw e

-- ── The digits at a place ──

module _ (input : List ℕ) (at : ℕ) where
  -- There is none past the end.
  pub no_hex_past : length input ≤ at → DigitReads input at None
  unfolding leading_hex
  no_hex_past l = rw (drop_of_length-le input l)

  -- What the byte there says is what reads there.
  pub digit_stands : at < length input → (b : ℕ) → b ≡ get_or input at 0 → (r : Option ℕ) → DigitSays b r → DigitReads input at r
  digit_stands l b e (Some d) h =
      let first = ap leading_hex (drop-cons input at 0 l) ∙ leading_one (get_or input at 0) (drop (suc at) input) (rw e at h.0) in
      (b, h.1, h.2, l, rw (e, add-one) first)
  digit_stands l b e None h = ap leading_hex (drop-cons input at 0 l) ∙ leading_none (get_or input at 0) (drop (suc at) input) (rw e at h)
