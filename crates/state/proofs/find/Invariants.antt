-- The loop has read the facts before the place, and the flag tells whether the wanted one stands among them.
use Prim.Native.Nat.{◌-◌}
use lib.ListN.{length}
use Rattle.procap.specs.Facts.{spelled}
use Rattle.state.proofs.Passes.{FactsRead}
use Rattle.state.proofs.find.Given as goal

abbrev pub invariant-loop-at : goal.invariant-loop-at
invariant-loop-at l = FactsRead l.state (spelled l.wanted) l.found l.at

abbrev pub decreases-loop-at : goal.decreases-loop-at
decreases-loop-at l = length l.state - l.at
