-- Past the end no digit stands; before it, what the byte there says is what reads there.
use Rattle.cases.proofs.HexDigits.{no_hex_past, digit_stands}
use Rattle.cases.proofs.hex.digit_at.Goals as goal

pub returns-in_err-get : goal.returns-in_err-get
returns-in_err-get c = rw c.from_residual.ensures (no_hex_past _ _ c.in_err-get.ensures.lookup.3)

pub returns : goal.returns
returns c =
    let here = c.in_ok-get.ensures.lookup.3 in
    digit_stands _ _ here.0 _ (here.1 0) c.digit_of.result c.digit_of.ensures
