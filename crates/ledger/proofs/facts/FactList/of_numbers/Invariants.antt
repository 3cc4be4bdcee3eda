-- The facts passed are listed.
use Rattle.std.proofs.Common.{◌≡◌}
use Rattle.ledger.specs.Numbers.{facts_listed}
use Rattle.ledger.proofs.facts.FactList.of_numbers.Given as goal

abbrev pub invariant-loop-index : goal.invariant-loop-index
invariant-loop-index l = l.list ≡ facts_listed l.facts l.index
