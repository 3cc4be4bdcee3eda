-- A first number of 0 is a plain row, and any other a claim of the second.
use Rattle.judging.proofs.RowLaws.{whose_plain, whose_claimed}
use Rattle.judging.proofs.rows.whose_in.Goals as goal

pub returns-then-number_in-eq0 : goal.returns-then-number_in-eq0
returns-then-number_in-eq0 c = whose_plain _ _ c.number_in.ensures c.if-number_in-eq0.true

pub returns-else-number_in-eq0 : goal.returns-else-number_in-eq0
returns-else-number_in-eq0 c = whose_claimed _ _ c.number_in.ensures c.if-number_in-eq0.false c.number_in-else-number_in-eq0.ensures
