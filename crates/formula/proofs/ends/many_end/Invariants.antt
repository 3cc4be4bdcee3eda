-- What the arguments not passed end with, all of them end with.
use Rattle.bl.specs.Formulas.{argument}
use Rattle.formula.proofs.Endings.{EndsAsRest}
use Rattle.formula.proofs.ends.many_end.Given as goal

abbrev pub invariant-loop : goal.invariant-loop
invariant-loop l = EndsAsRest (argument l.part l.binders) l.count l.at l.counter l.next
