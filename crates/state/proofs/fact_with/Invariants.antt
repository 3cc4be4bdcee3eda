-- The loop has read and stored the terms passed. A term that is missing leaves no fact; with none missing the terms make one.
use Rattle.std.proofs.Common.{◌++◌, drop}
use Rattle.std.specs.Prelude.{replicate}
use Rattle.procap.specs.Facts.{most_terms, no_argument, argument_of}
use Rattle.procap.specs.States.{settled_term}
use Rattle.procap.proofs.ReadSoFar.{ManyRead}
use Rattle.state.proofs.fact_with.Given as goal

abbrev pub invariant-loop-argument : goal.invariant-loop-argument
invariant-loop-argument l =
    ManyRead most_terms no_argument argument_of (settled_term l.state) l.terms l.fn.at
    (l.argument-items ++ drop l.terms (replicate most_terms no_argument))
    l.next
    l.argument-index
