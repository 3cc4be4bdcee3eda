-- The loop has read and stored the terms passed. A term that is missing leaves no fact; with none missing the terms make one.
use Rattle.std.proofs.Common.{arith, ◌<◌, ◌≤◌, length, replicate, refl, sym, ap}
use Rattle.std.proofs.lemmas.Grind.{common_steps}
use Rattle.std.proofs.lemmas.List.{set-append_left, take-append-drop}
use Rattle.procap.specs.Lists.{pad}
use Rattle.procap.specs.Facts.{most_terms, no_argument}
use Rattle.procap.specs.Reading.{with_predicate}
use Rattle.procap.proofs.ReadSoFar.{none_of_many, one_of_many, none_of_rest, all_of_many}
use Rattle.procap.proofs.WithPredicate.{fact_with}
use Rattle.state.proofs.fact_with.Goals as goal

pub loop-argument-init : goal.loop-argument-init
unfolding pad
loop-argument-init c = none_of_many (take-append-drop c.args.terms (replicate most_terms no_argument))

pub returns-in_err-argument-clause-reads : goal.returns-in_err-argument-clause-reads
returns-in_err-argument-clause-reads c =
    let inside : c.loop-argument.argument-index < c.args.terms = grind (arith, common_steps) in
    rw c.from_residual.ensures (ap (with_predicate _) (none_of_rest c.loop-argument.invariant inside (sym c.in_err-argument.ensures)))

pub loop-argument-preserved : goal.loop-argument-preserved
loop-argument-preserved c =
    let inside : c.loop-argument.argument-index < c.args.terms = grind (arith, common_steps) in
    let stored : c.loop-argument.argument-index < length c.loop-argument.argument-items = grind (arith, common_steps) in
    rw set-append_left
    at (one_of_many c.loop-argument.invariant inside _ _ c.requires refl (sym c.in_ok-argument.ensures))

pub returns-clause-reads : goal.returns-clause-reads
returns-clause-reads c =
    let over : c.args.terms ≤ c.loop-argument.argument-index = grind (arith, common_steps) in
    fact_with _ (all_of_many c.loop-argument.invariant over) _ refl
