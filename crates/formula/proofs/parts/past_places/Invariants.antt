-- The loop has passed so many of the places, and the others are still to be read.
use Rattle.formula.proofs.PartsRead.{PlacesPassed}
use Rattle.formula.proofs.parts.past_places.Given as goal

abbrev pub invariant-loop : goal.invariant-loop
invariant-loop l = PlacesPassed l.bytes l.count l.at l.next l.counter
