-- The digits read so far say the value, within the limit and in their one spelling. A digit after a lone zero, or one that passes
-- the limit, leaves no number, since more digits only make the value larger.
use Prim.Native.Nat.{◌-◌}
use lib.ListN.{length}
use Rattle.text.proofs.Digits.{DigitsRead}
use Rattle.text.proofs.line.number.Given as goal

abbrev pub invariant-loop-digit : goal.invariant-loop-digit
invariant-loop-digit l = DigitsRead l.text l.limit l.at l.value l.next

abbrev pub decreases-loop-digit : goal.decreases-loop-digit
decreases-loop-digit l = length l.text - l.next
