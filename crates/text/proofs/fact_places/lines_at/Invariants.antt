-- The lines passed are read, no two alike, and their places are kept. A line that is no fact's, or one that was there before, means that there are no
-- such lines.
use Rattle.text.proofs.LinesSoFar.{LinesSoFar}
use Rattle.text.proofs.fact_places.lines_at.Given as goal

abbrev pub invariant-loop-i : goal.invariant-loop-i
invariant-loop-i l = LinesSoFar l.text l.at l.count l.places l.next l.i
