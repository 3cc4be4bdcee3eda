-- The loop has passed the facts that hold; one that does not is the first missing.
use Rattle.door.proofs.Missing.{GivenPassed}
use Rattle.door.proofs.decide.first_missing.Given as goal

abbrev pub invariant-loop-i : goal.invariant-loop-i
invariant-loop-i g l = GivenPassed (λ i f. g.F.Fn.post l.fact (i, tt) f) l.count l.moment l.state l.i
