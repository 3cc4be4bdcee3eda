-- The first i of the places have the first i values in the row.
use lib.ListN.{length}
use Rattle.from_c.proofs.RowLaws.{Filled}
use Rattle.from_c.proofs.row.put_in_a_row.Given as goal

abbrev pub invariant-loop-i : goal.invariant-loop-i
invariant-loop-i g l = Filled (g.T.InARow.value_at l.bytes) g.T.InARow.BYTES (length l.fn.items) l.start l.items l.i
