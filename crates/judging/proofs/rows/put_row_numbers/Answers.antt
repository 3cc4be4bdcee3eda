-- Where the rows are not all there or have no such index they stay. Else the five calls store the row's numbers one after another.
use Prim.Native.Nat.{◌*◌}
use mathlib.Core.Path.{sym, ◌∙◌}
use native.Mathlib.Omega.{arith}
use Rattle.judging.specs.RowsOf.{row_numbers}
use Rattle.judging.proofs.RowLaws.{row_put, not_all_there, no_such_row, put_there}
use Rattle.judging.proofs.rows.put_row_numbers.Goals as goal

pub returns-then-rows-ne-ALL_NUMBERS : goal.returns-then-rows-ne-ALL_NUMBERS
returns-then-rows-ne-ALL_NUMBERS c = not_all_there _ _ _ (λ all. grind arith)

pub returns-then-index-ge-MOST_ROWS : goal.returns-then-index-ge-MOST_ROWS
returns-then-index-ge-MOST_ROWS c = no_such_row _ _ _ (omega arith) (omega arith)

pub returns : goal.returns
returns c =
    let rows = c.args.rows.now in
    let index = c.args.index in
    let row = c.args.row in
    row_put rows (index * row_numbers) row
    (grind arith) (grind arith) c.put_two.ensures
    c.put_two-2.ensures
    c.put_two-3.ensures
    c.put_two-4.ensures
    c.put_numbers.ensures
    ∙ sym (put_there rows index row (omega arith) (omega arith))
