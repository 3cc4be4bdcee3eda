-- The names so far are those passed, where all of them rise, and no more than were passed.
use Prim.Native.Nat.{◌≤◌}
use Rattle.strength.specs.Strengths.{names}
use Rattle.strength.proofs.NamesTaken.{Passed}
use Rattle.strength.proofs.names.Names.of_numbers.Given as goal

abbrev pub invariant-loop-name : goal.invariant-loop-name
invariant-loop-name l = (l.found.count ≤ l.name-index) × Passed l.name-items l.name-index (names l.found)
