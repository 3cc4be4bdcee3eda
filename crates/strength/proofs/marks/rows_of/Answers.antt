-- Each row is made of the next two words.
use native.Mathlib.Omega.{arith}
use mathlib.Core.Path.{sym, ap, ◌∙◌}
use lib.ListN.{length-set}
use lib.Seq.{take_all}
use Rattle.strength.specs.InNumbers.{words}
use Rattle.strength.proofs.WordsOfRows.{row_taken}
use Rattle.strength.proofs.marks.rows_of.Goals as goal

pub loop-row-preserved : goal.loop-row-preserved
loop-row-preserved c =
    let inv = c.loop-row.invariant in
    let two = c.row_of.ensures in
    (length-set c.loop-row.rows c.loop-row.row c.row_of.result ∙ inv.0, row_taken c.args.numbers.now c.loop-row.rows c.loop-row.row c.row_of.result (omega (arith, inv.0)) (omega arith) two.low two.high inv.1)

pub returns : goal.returns
returns c =
    let loop = c.loop-row in
    ap words (sym (take_all loop.row loop.rows (omega (arith, loop.invariant.0)))) ∙ loop.invariant.1 ∙ take_all _ c.args.numbers.now (omega arith)
