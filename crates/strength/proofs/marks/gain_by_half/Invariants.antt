-- The rows before the index have gained, and the others are as they were.
use Prim.Native.Nat.{◌+◌}
use Rattle.strength.proofs.RowMarks.{GainedBefore}
use Rattle.strength.proofs.marks.gain_by_half.Given as goal

abbrev pub invariant-loop-row : goal.invariant-loop-row
invariant-loop-row g l = GainedBefore (g.row.FROM + l.place) l.gained l.initial.rows l.rows l.row-index
