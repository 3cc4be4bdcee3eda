-- None of the facts passed is the wanted one: the next one is, or it is passed too, by its predicate or by a comparison; at the end there
-- is none.
use mathlib.Core.Path.{sym}
use native.Mathlib.Omega.{arith}
use Rattle.procap.proofs.Telling.{holds, fails}
use Rattle.door.proofs.Widths.{number_width, number_inside}
use Rattle.door.proofs.NoneBefore.{none_before, next_is_wanted, next_is_another, none_left, other_predicate}
use Rattle.door.proofs.holding.holds_at.Goals.{else-predicate-wanted-via-then-predicate-wanted+else-stands_at, else-predicate-wanted-via-else-predicate-wanted}
use Rattle.door.proofs.holding.holds_at.Goals as goal

pub loop-predicate-init : goal.loop-predicate-init
loop-predicate-init c = none_before _ _

pub returns-then-stands_at : goal.returns-then-stands_at
returns-then-stands_at c σ s =
    let more = number_inside _ 2 _ _ _ (sym c.in-Some.ensures.reads) in
    next_is_wanted _ _ _ c.loop-predicate.invariant σ s (omega (arith, more))
    (λ f e r. holds _ c.if-stands_at.true (c.stands_at.ensures f e r))

pub loop-predicate-smaller : goal.loop-predicate-smaller
loop-predicate-smaller c =
    let predicate = sym c.in-Some.ensures.reads in
    omega (arith, number_width _ 2 _ _ _ predicate, number_inside _ 2 _ _ _ predicate, c.past_terms-at.ensures.onwards)

pub loop-predicate-preserved : goal.loop-predicate-preserved
loop-predicate-preserved c =
    let predicate = sym c.in-Some.ensures.reads in
    let more = number_inside _ 2 _ _ _ predicate in
    next_is_another _ _ _ c.loop-predicate.invariant (omega (arith, more)) _
    (elim c.else-predicate-wanted.branch [
      | else-predicate-wanted-via-then-predicate-wanted+else-stands_at w ↦ λ f e r. fails _ w.if-stands_at.false (w.stands_at.ensures f e r)
      | else-predicate-wanted-via-else-predicate-wanted w ↦ other_predicate _ _ _ _ predicate _ _ w.if-predicate-wanted.false
    ])
    (λ f e r. c.past_terms-at.ensures.ends f _ e (number_width _ 2 _ _ _ predicate) r)

pub returns : goal.returns
returns c σ s = none_left _ _ _ c.loop-predicate.invariant σ s (sym c.in_default.ensures.reads)
