-- The rows so far are those of the words so far.
use Prim.Native.Nat.{◌*◌}
use mathlib.Core.Path.{◌≡◌}
use lib.ListN.{length, take}
use Rattle.bl.specs.Strength.{most_pairs}
use Rattle.strength.specs.InNumbers.{words}
use Rattle.strength.proofs.marks.rows_of.Given as goal

abbrev pub invariant-loop-row : goal.invariant-loop-row
invariant-loop-row l = (length l.rows ≡ most_pairs) × (words (take l.row l.rows) ≡ take (l.row * 2) l.numbers)
