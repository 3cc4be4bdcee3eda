-- A walk that has stopped stays; else the tag of the term's binder tells whether the term may be put in.
use mathlib.Core.Path.{refl, sym, ap, ◌∙◌}
use Rattle.std.specs.Prelude.{Some}
use Rattle.procap.proofs.Telling.{holds_else, fails_where}
use Rattle.judging.proofs.JudgingLaws.{yields_nothing, halts, goes_on, takes_yields}
use Rattle.judging.proofs.InstancesTaken.{instance_missing, instance_there}
use Rattle.judging.proofs.judge.instance.Goals as goal

pub returns-then-not-goes_on : goal.returns-then-not-goes_on
returns-then-not-goes_on c =
    let told = c.goes_on in
    λ form state b w e list y. halts y _ _ (fails_where told.result c.if-not-goes_on.true-raw told.ensures) refl

pub returns-then-not-is_a : goal.returns-then-not-is_a
returns-then-not-is_a c =
    let going = holds_else c.goes_on.result c.if-not-goes_on.false-raw c.goes_on.ensures in
    λ form state b w e list y.
    goes_on y _ _
    (yields_nothing _ y.gives.sound
    (instance_missing (y.on going).means _ _ _ _
    (λ tag. fails_where c.is_a.result c.if-not-is_a.true-raw c.is_a.ensures (tag ∙ ap Some (sym c.binder_of.ensures))))
    (ap (λ r. r.ledger) c.nothing.ensures ∙ c.misfit.ensures))

pub returns : goal.returns
returns c =
    let going = holds_else c.goes_on.result c.if-not-goes_on.false-raw c.goes_on.ensures in
    λ form state b w e list y.
    goes_on y _ _
    (takes_yields _ y.gives.sound (y.ends going)
    (instance_there _ (y.on going) _ _
    (holds_else c.is_a.result c.if-not-is_a.false-raw c.is_a.ensures ∙ ap Some c.binder_of.ensures)
    c.past.ensures.there
    form
    c.with.ensures
    refl))
