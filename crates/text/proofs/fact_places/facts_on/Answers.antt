-- The facts of the lines passed are in the array.
use mathlib.Core.Path.{refl}
use native.Mathlib.Omega.{arith}
use Rattle.text.proofs.OnLines.{none_filled, one_filled, all_filled}
use Rattle.text.proofs.fact_places.facts_on.Goals as goal

pub loop-i-init : goal.loop-i-init
loop-i-init c = none_filled _ _ _ (rw c.none-facts.ensures refl)

pub loop-i-preserved : goal.loop-i-preserved
loop-i-preserved c = one_filled _ _ _ _ c.loop-i.invariant (omega arith) (omega arith) _ c.fact_on.ensures.read

pub returns : goal.returns
returns c = all_filled _ _ _ _ c.loop-i.invariant (omega arith)
