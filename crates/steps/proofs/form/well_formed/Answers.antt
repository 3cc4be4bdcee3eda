-- A turn opens the newest of what waits, and its parts take its place; what the whole reads as is what is left to be read, from what was found so far.
use mathlib.Core.Path.{refl, ap, ◌∙◌}
use mathlib.Core.List.{◌∷◌}
use Rattle.std.specs.Prelude.{Some}
use native.Mathlib.Omega.{arith}
use borrow.Author.Tests.{ne_eqb}
use Rattle.steps.proofs.FormLoop.{noted_length, was_first, was_empty, a_place, SoFar, begins, nothing_there, leaf_turned, one_turned, two_turned, ended, too_long, unread_proof, not_to_the_end, to_the_end_tells, table_told}
use Rattle.steps.proofs.form.well_formed.Goals as goal
use Rattle.steps.proofs.form.well_formed.Goals.{After-open, In_default}

-- Before a turn what was taken is the first of what is to be read; in the end there is nothing.
before : (c : After-open) → SoFar c.args.proof.now c.args.certificates c.args.ends.now c.loop-todo.ends (c.in-Some.todo ∷ c.pop.new.self) c.loop-todo.place c.loop-todo.states
before c = rw (was_first _ _ _ c.pop.ensures c.in-Some.is) at c.loop-todo.invariant.so

pub returns-then-proof-gt-MOST_PROOF_BYTES-clause-tells : goal.returns-then-proof-gt-MOST_PROOF_BYTES-clause-tells
returns-then-proof-gt-MOST_PROOF_BYTES-clause-tells c = too_long _ _ c.args.ends.now c.if-proof-gt-MOST_PROOF_BYTES.true

pub returns-then-proof-gt-MOST_PROOF_BYTES-clause-told : goal.returns-then-proof-gt-MOST_PROOF_BYTES-clause-told
returns-then-proof-gt-MOST_PROOF_BYTES-clause-told c = λ N l p. absurd (too_long _ _ c.args.ends.now c.if-proof-gt-MOST_PROOF_BYTES.true (N, p))

pub loop-todo-init : goal.loop-todo-init
loop-todo-init c = record { ends = refl; so = rw (c.with-waiting.ensures, c.whole.ensures) (begins _ _ _ c.if-proof-gt-MOST_PROOF_BYTES.false) }

pub returns-in_default-open-clause-tells : goal.returns-in_default-open-clause-tells
returns-in_default-open-clause-tells c =
    unread_proof _ _ _ (nothing_there _ _ _ _ _ _ _ _ (before (goal.at.returns-in_default-open-clause-tells c).After-open) _ c.open.ensures c.in_default-open.is)

pub returns-in_default-open-clause-told : goal.returns-in_default-open-clause-told
returns-in_default-open-clause-told c = λ N l p.
    absurd (unread_proof _ _ _ (nothing_there _ _ _ _ _ _ _ _ (before (goal.at.returns-in_default-open-clause-told c).After-open) _ c.open.ensures c.in_default-open.is) (N, p))

pub overflow_add-states : goal.overflow_add-states
overflow_add-states c =
    let so = before (goal.at.overflow_add-states c).After-open in
    let turned = leaf_turned _ _ _ _ _ _ _ _ so _ c.open.ensures _ _ (c.in-Some-open.is ∙ ap Some c.in-Leaf.is) in
    omega (arith, turned.next.few, turned.next.inside, so.short)

pub loop-todo-smaller-in-Leaf : goal.loop-todo-smaller-in-Leaf
loop-todo-smaller-in-Leaf c =
    let so = before (goal.at.loop-todo-smaller-in-Leaf c).After-open in
    let turned = leaf_turned _ _ _ _ _ _ _ _ so _ c.open.ensures _ _ (c.in-Some-open.is ∙ ap Some c.in-Leaf.is) in
    rw (was_first _ _ _ c.pop.ensures c.in-Some.is) turned.fewer

pub loop-todo-preserved-in-Leaf : goal.loop-todo-preserved-in-Leaf
loop-todo-preserved-in-Leaf c =
    let so = before (goal.at.loop-todo-preserved-in-Leaf c).After-open in
    let turned = leaf_turned _ _ _ _ _ _ _ _ so _ c.open.ensures _ _ (c.in-Some-open.is ∙ ap Some c.in-Leaf.is) in
    rw c.note_end.ensures (record { ends = noted_length _ _ _ ∙ c.loop-todo.invariant.ends; so = turned.next })

pub push-requires : goal.push-requires
push-requires c = a_place _ _ (before (goal.at.push-requires c).After-open).fit

pub loop-todo-smaller-in-One : goal.loop-todo-smaller-in-One
loop-todo-smaller-in-One c =
    let so = before (goal.at.loop-todo-smaller-in-One c).After-open in
    let turned = one_turned _ _ _ _ _ _ _ _ so _ c.open.ensures _ _ (c.in-Some-open.is ∙ ap Some c.in-One.is) in
    rw (c.push.ensures, was_first _ _ _ c.pop.ensures c.in-Some.is) turned.fewer

pub loop-todo-preserved-in-One : goal.loop-todo-preserved-in-One
loop-todo-preserved-in-One c =
    let so = before (goal.at.loop-todo-preserved-in-One c).After-open in
    let turned = one_turned _ _ _ _ _ _ _ _ so _ c.open.ensures _ _ (c.in-Some-open.is ∙ ap Some c.in-One.is) in
    rw (c.note_end.ensures, c.push.ensures) (record { ends = noted_length _ _ _ ∙ c.loop-todo.invariant.ends; so = turned.next })

pub push-requires-in-Two : goal.push-requires-in-Two
push-requires-in-Two c = a_place _ _ (before (goal.at.push-requires-in-Two c).After-open).fit

pub push-requires-in-Two-2 : goal.push-requires-in-Two-2
push-requires-in-Two-2 c =
    let so = before (goal.at.push-requires-in-Two-2 c).After-open in
    let turned = two_turned _ _ _ _ _ _ _ _ so _ c.open.ensures _ _ _ (c.in-Some-open.is ∙ ap Some c.in-Two.is) in
    rw c.push-in-Two.ensures (a_place _ _ turned.next.fit)

pub loop-todo-smaller : goal.loop-todo-smaller
loop-todo-smaller c =
    let so = before (goal.at.loop-todo-smaller c).After-open in
    let turned = two_turned _ _ _ _ _ _ _ _ so _ c.open.ensures _ _ _ (c.in-Some-open.is ∙ ap Some c.in-Two.is) in
    rw (c.push-in-Two-2.ensures, c.push-in-Two.ensures, was_first _ _ _ c.pop.ensures c.in-Some.is) turned.fewer

pub loop-todo-preserved : goal.loop-todo-preserved
loop-todo-preserved c =
    let so = before (goal.at.loop-todo-preserved c).After-open in
    let turned = two_turned _ _ _ _ _ _ _ _ so _ c.open.ensures _ _ _ (c.in-Some-open.is ∙ ap Some c.in-Two.is) in
    rw (c.note_end.ensures, c.push-in-Two-2.ensures, c.push-in-Two.ensures)
    (record { ends = noted_length _ _ _ ∙ c.loop-todo.invariant.ends; so = turned.next })

pub returns-then-place-proof-clause-tells : goal.returns-then-place-proof-clause-tells
returns-then-place-proof-clause-tells c =
    let so = rw (was_empty _ _ c.pop.ensures c.in_default.is) at c.loop-todo.invariant.so in
    to_the_end_tells _ _ _ _ _ _ (ended _ _ _ _ _ _ so) so.short c.if-place-proof.true

pub returns-then-place-proof-clause-told : goal.returns-then-place-proof-clause-told
returns-then-place-proof-clause-told c =
    let so = rw (was_empty _ _ c.pop.ensures c.in_default.is) at c.loop-todo.invariant.so in
    table_told _ _ _ _ _ _ (ended _ _ _ _ _ _ so) so.short

pub returns-else-place-proof-clause-tells : goal.returns-else-place-proof-clause-tells
returns-else-place-proof-clause-tells c =
    let so = rw (was_empty _ _ c.pop.ensures c.in_default.is) at c.loop-todo.invariant.so in
    rw (ne_eqb _ _ c.if-place-proof.false) (not_to_the_end _ _ _ _ _ _ (ended _ _ _ _ _ _ so) c.if-place-proof.false)

pub returns-else-place-proof-clause-told : goal.returns-else-place-proof-clause-told
returns-else-place-proof-clause-told c = λ N l p.
    let so = rw (was_empty _ _ c.pop.ensures c.in_default.is) at c.loop-todo.invariant.so in
    absurd (not_to_the_end _ _ _ _ _ _ (ended _ _ _ _ _ _ so) c.if-place-proof.false (N, p))
