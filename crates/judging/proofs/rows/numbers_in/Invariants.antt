-- The loop has copied the numbers passed, so at its end the array is those of the rows.
use Rattle.formula.specs.PutIn.{terms_numbers}
use Rattle.judging.proofs.RowLaws.{Copied}
use Rattle.judging.proofs.rows.numbers_in.Given as goal

abbrev pub invariant-loop-i : goal.invariant-loop-i
invariant-loop-i l = Copied l.rows l.at terms_numbers l.number-items l.i
