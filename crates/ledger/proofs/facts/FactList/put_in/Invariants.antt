-- The facts passed are put, and read back.
use Rattle.ledger.proofs.ListNumbers.{PutSoFar}
use Rattle.ledger.proofs.facts.FactList.put_in.Given as goal

abbrev pub invariant-loop-index : goal.invariant-loop-index
invariant-loop-index l = PutSoFar l.initial.facts l.facts l.self-inside.facts l.index
