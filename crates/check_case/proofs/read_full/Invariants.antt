use Rattle.std.proofs.Common.{length, ◌-◌, ◌≤◌}
use Rattle.check_case.proofs.read_full.Given as goal

-- No more has been read than there is room for.
abbrev pub invariant-loop-done : goal.invariant-loop-done
invariant-loop-done g l = l.done ≤ length l.buffer

abbrev pub decreases-loop-done : goal.decreases-loop-done
decreases-loop-done g l = length l.buffer - l.done
