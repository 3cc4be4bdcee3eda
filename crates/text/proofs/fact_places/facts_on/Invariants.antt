-- The facts of the lines passed are in the array.
use Rattle.text.proofs.OnLines.{Filled}
use Rattle.text.proofs.fact_places.facts_on.Given as goal

abbrev pub invariant-loop-i : goal.invariant-loop-i
invariant-loop-i l = Filled l.text l.places l.facts l.i
