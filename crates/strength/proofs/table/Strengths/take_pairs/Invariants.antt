-- The names have both sides of all pairs, and the strengths are those of the pairs taken, the last of which was taken first.
use mathlib.Core.List.{[]}
use Rattle.bl.specs.Strength.{pairs_of}
use Rattle.strength.specs.Strengths.{StrengthsOf}
use Rattle.strength.specs.Taking.{Standing}
use Rattle.strength.proofs.PairsTaken.{taken}
use Rattle.strength.proofs.table.Strengths.take_pairs.Given as goal

abbrev pub invariant-loop-pair : goal.invariant-loop-pair
invariant-loop-pair l =
    Standing l.pairs l.self × (StrengthsOf l.initial.self [] → StrengthsOf l.self (pairs_of (taken l.yielded)))
