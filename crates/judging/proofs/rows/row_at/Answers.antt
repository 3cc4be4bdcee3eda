-- All rows are there, or not.
use native.Mathlib.Omega.{arith}
use Rattle.judging.proofs.RowLaws.{row_whole, row_of_none}
use Rattle.judging.proofs.rows.row_at.Goals as goal

pub returns-then-rows-eq-ALL_NUMBERS : goal.returns-then-rows-eq-ALL_NUMBERS
returns-then-rows-eq-ALL_NUMBERS c =
    rw (row_whole c.args.rows.now c.args.index (omega (arith, c.if-rows-eq-ALL_NUMBERS.true))) c.row_from.ensures

pub returns : goal.returns
returns c =
    rw (row_of_none c.args.rows.now c.args.index (λ all. omega (arith, all, c.if-rows-eq-ALL_NUMBERS.false)), c.front_on_ctime.ensures)
