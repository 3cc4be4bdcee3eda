-- The byte at the place is a digit where it stands between '0' and '9'.
use mathlib.Core.Path.{sym}
use Rattle.text.specs.Numbers.{is_digit}
use Rattle.text.proofs.Digits.{digit_here, no_digit_here, no_digits_past}
use Rattle.text.proofs.line.digit_at.Goals as goal

pub returns-in_err-byte : goal.returns-in_err-byte
returns-in_err-byte c = rw c.from_residual.ensures (no_digits_past _ _ c.in_err-byte.ensures.lookup.3)

pub returns-then-is_ascii_digit : goal.returns-then-is_ascii_digit
unfolding is_digit
returns-then-is_ascii_digit c =
    let here = c.in_ok-byte.ensures.lookup.3 in
    rw c.from.ensures (digit_here _ _ _ here.0 (here.1 0) (sym c.if-is_ascii_digit.ensures.value))

pub returns-else-is_ascii_digit : goal.returns-else-is_ascii_digit
unfolding is_digit
returns-else-is_ascii_digit c =
    let here = c.in_ok-byte.ensures.lookup.3 in
    no_digit_here _ _ _ here.0 (here.1 0) (sym c.if-is_ascii_digit.ensures.value)
