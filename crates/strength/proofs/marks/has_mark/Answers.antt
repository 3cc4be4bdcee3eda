-- The bit is what is left of the row, shifted down, by two.
use borrow.Author.Tests.{eqb-true, eqb-false}
use lib.Dec.{eqb}
use Rattle.std.specs.Int.{bit_at}
use Rattle.procap.proofs.Telling.{tells_if}
use Rattle.strength.specs.Marks.{Bit}
use Rattle.strength.proofs.marks.has_mark.Goals as goal

pub returns : goal.returns
unfolding Bit
returns c =
    let left = bit_at c.args.row c.args.column in
    tells_if (eqb left 1) (eqb-true left 1) (eqb-false left 1)
