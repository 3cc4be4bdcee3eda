-- The loop has read and stored the terms passed. A variable leaves no fact; with none left the terms make one.
use Rattle.formula.proofs.FactsSpelled.{PlacesKept}
use Rattle.formula.proofs.parts.fact_with.Given as goal

abbrev pub invariant-loop-i : goal.invariant-loop-i
invariant-loop-i l = PlacesKept l.bytes l.terms l.head.count l.head.next l.arguments l.next l.i
