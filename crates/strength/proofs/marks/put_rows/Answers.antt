-- Each row is put as the next two words.
use native.Mathlib.Omega.{arith}
use lib.ListN.{length-set}
use Rattle.strength.proofs.WordsOfRows.{row_put}
use Rattle.strength.proofs.marks.put_rows.Goals as goal

pub loop-place-preserved : goal.loop-place-preserved
loop-place-preserved c =
    let inv = c.loop-place.invariant in
    (simp length-set inv.0, row_put c.loop-place.numbers c.args.rows.now c.loop-place.place (omega arith) (omega (arith, inv.0)) inv.1)
