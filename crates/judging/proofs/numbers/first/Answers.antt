-- The first side is the one that was asked for, by the list in numbers too.
use Rattle.judging.proofs.ByNumbers.{continues_in_numbers}
use Rattle.judging.proofs.numbers.first.Goals as goal

pub returns-clause-listed : goal.returns-clause-listed
returns-clause-listed c = c.conjunct.ensures

pub returns-clause-counted : goal.returns-clause-counted
returns-clause-counted c = continues_in_numbers _ _ _ _ c.conjunct.ensures
