-- All places have no fact.
use native.Mathlib.Omega.{arith}
use mathlib.Core.Path.{refl}
use Rattle.procap.specs.Lists.{pad}
use Rattle.ledger.proofs.facts.FactList.none.Goals as goal

pub invariant_of-result : goal.invariant_of-result
unfolding pad
invariant_of-result c = rw c.none.ensures (omega arith, refl)
