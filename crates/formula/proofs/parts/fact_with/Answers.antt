-- The loop has read and stored the terms passed. A variable leaves no fact; with none left the terms make one.
use mathlib.Core.Path.{refl}
use Rattle.procap.specs.Lists.{pad}
use Rattle.formula.specs.Meaning.{SpellsPlaces}
use Rattle.formula.proofs.FactsSpelled.{none_kept, one_kept, place_missing, variable_left, all_kept}
use Rattle.formula.proofs.parts.fact_with.Goals as goal

pub loop-i-init : goal.loop-i-init
unfolding pad
loop-i-init c = none_kept refl

pub returns-in_err-place-clause-spells : goal.returns-in_err-place-clause-spells
unfolding SpellsPlaces
returns-in_err-place-clause-spells c = rw c.from_residual.ensures (place_missing c.loop-i.invariant c.loop-i-test.true c.in_err-place.ensures)

pub returns-in_default-clause-spells : goal.returns-in_default-clause-spells
unfolding SpellsPlaces
returns-in_default-clause-spells c = variable_left c.loop-i.invariant c.loop-i-test.true _ _ c.in_ok-place.ensures _ c.in_default.is

pub loop-i-preserved : goal.loop-i-preserved
loop-i-preserved c = one_kept c.loop-i.invariant c.loop-i-test.true _ _ c.in_ok-place.ensures _ c.in-Fixed.is c.requires

pub returns-clause-spells : goal.returns-clause-spells
returns-clause-spells c = all_kept c.loop-i.invariant c.loop-i-test.false _
