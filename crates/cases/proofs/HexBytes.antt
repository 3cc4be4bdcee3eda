-- What a line of hex reads is bytes: two digits below 16 say a number below 256.
use Prim.Native.Nat.{ℕ}
use mathlib.Core.List.{List, [], ◌∷◌}
use native.Mathlib.Omega.{arith}
use lib.ListN.{drop}
use Rattle.procap.specs.Lists.{All}
use Rattle.procap.proofs.Readers.{IfRead, read, then_read, ensure_read, any_read}
use Rattle.bl.specs.Accepting.{AreBytes}
use Rattle.text.specs.Line.{literal}
use Rattle.cases.specs.Hex.{paired}
use Rattle.cases.specs.CaseLines.{hex_digits, hex_line}
use Rattle.cases.proofs.HexDigits.{IsHex, hex_value_below, leading_are_hex}

-- Pairs of digits say bytes.
paired_are_bytes : (ds : List ℕ) → All IsHex ds → AreBytes (paired ds)
unfolding paired All
paired_are_bytes [] h = tt
paired_are_bytes (d ∷ []) h = tt
paired_are_bytes (d ∷ e ∷ ds) h =
    (omega (arith, hex_value_below d h.0, hex_value_below e h.1.0), paired_are_bytes ds h.1.1)

-- What stands next as digits is digits.
digits_are_hex : (bytes : List ℕ) (at : ℕ) → IfRead (λ ds _. All IsHex ds) (hex_digits bytes at)
unfolding hex_digits
digits_are_hex bytes at = read (leading_are_hex (drop at bytes))

-- Every byte that a line of hex reads is below 256.
pub hex_line_bytes : (bytes word : List ℕ) (at : ℕ) → IfRead (λ bs _. AreBytes bs) (hex_line bytes word at)
unfolding hex_line
hex_line_bytes bytes word at =
    then_read (any_read (literal bytes word at)) λ _ first _.
    then_read (digits_are_hex bytes first) λ ds end h.
    ensure_read _ _ _ λ _.
    then_read (any_read _) λ _ _ _.
    read (paired_are_bytes ds h)
