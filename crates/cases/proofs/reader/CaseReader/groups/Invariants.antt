-- The records of the groups read so far stand in the array and their formulas one after another, and the rest is still to be read.
use Rattle.cases.proofs.GroupsSoFar.{GroupsSoFar}
use Rattle.cases.proofs.reader.CaseReader.groups.Given as goal

abbrev pub invariant-loop-i : goal.invariant-loop-i
invariant-loop-i l = GroupsSoFar l.initial.self l.count l.self l.records l.i
