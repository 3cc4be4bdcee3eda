-- None of the facts passed is the wanted one: the next one is, or it is passed too, by its predicate or by a comparison; at the end there
-- is none.
use Prim.Native.Nat.{◌-◌}
use lib.ListN.{length}
use Rattle.procap.specs.Facts.{spelled, spelled_at_moment}
use Rattle.door.proofs.NoneBefore.{NoneBefore}
use Rattle.door.proofs.holding.holds_at.Given as goal

abbrev pub invariant-loop-predicate : goal.invariant-loop-predicate
invariant-loop-predicate l = NoneBefore l.state (spelled_at_moment l.moment (spelled l.wanted)) l.at

abbrev pub decreases-loop-predicate : goal.decreases-loop-predicate
decreases-loop-predicate l = length l.state - l.at
