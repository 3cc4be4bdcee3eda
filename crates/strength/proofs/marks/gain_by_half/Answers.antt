-- A row that has the mark of the column is joined with what is gained, and any other stays.
use native.Mathlib.Omega.{arith}
use Rattle.strength.proofs.BitLaws.{bit_there, bit_missing}
use Rattle.strength.proofs.RowMarks.{row_gained, row_passed, all_gained}
use Rattle.strength.proofs.marks.gain_by_half.Goals as goal
use Rattle.strength.proofs.marks.gain_by_half.Goals.{then-half-mark-ne0, else-half-mark-ne0}

pub loop-row-preserved : goal.loop-row-preserved
loop-row-preserved g c =
    let loop = c.loop-row in
    elim c.if-half-mark-ne0.branch [
      | then-half-mark-ne0 w ↦ rw w.rows-is (row_gained _ _ _ _ _ loop.invariant (omega arith) (bit_there _ _ c.args.place c.requires.1 w.if-half-mark-ne0.true))
      | else-half-mark-ne0 w ↦ rw w.rows-is (row_passed _ _ _ _ _ loop.invariant (omega arith) (bit_missing _ _ c.args.place c.requires.1 w.if-half-mark-ne0.false))
    ]

pub returns : goal.returns
returns g c = all_gained _ _ _ _ _ c.loop-row.invariant (omega arith)
