-- From '0' to '9' and from 'a' to 'f' stand digits, and none before, between and after.
use native.Mathlib.Omega.{arith}
use Rattle.cases.proofs.HexDigits.{decimal_digit, letter_digit, no_hex_below, no_hex_between, no_hex_above}
use Rattle.cases.proofs.hex.digit_of.Goals as goal

pub returns-in-48-to-57 : goal.returns-in-48-to-57
returns-in-48-to-57 c = decimal_digit _ (omega arith) (omega arith)

pub returns-in-97-to-102 : goal.returns-in-97-to-102
returns-in-97-to-102 c = letter_digit _ (omega arith) (omega arith)

pub returns-in_default : goal.returns-in_default
returns-in_default c = no_hex_below _ (omega arith)

pub returns-in_default-2 : goal.returns-in_default-2
returns-in_default-2 c = no_hex_between _ (omega arith) (omega arith)

pub returns-in_default-3 : goal.returns-in_default-3
returns-in_default-3 c = no_hex_above _ (omega arith)
