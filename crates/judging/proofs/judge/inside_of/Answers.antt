-- What is inside of an "at" is a plain assumption on its own interval, what someone says a claim of theirs, a side of an "or" a plain one on the same interval.
use mathlib.Core.Path.{refl}
use native.Mathlib.Omega.{arith}
use Rattle.bl.specs.Rules.{plain, claim}
use Rattle.judging.specs.RowsOf.{is_plain, is_claim}
use Rattle.judging.specs.Judging.{sides, TwoSided, inside}
use Rattle.judging.proofs.JudgingLaws.{takes_then}
use Rattle.judging.proofs.judge.inside_of.Goals as goal

pub returns-in-AtShell : goal.returns-in-AtShell
unfolding inside
returns-in-AtShell c F m =
    rw c.in-AtShell.is
    (takes_then _ (λ x. plain x.0 x.1 x.2) refl (λ x so. is_plain so.0 (λ h. omega arith) so.1) (c.lifted.ensures F m))

pub returns-in-SaysShell : goal.returns-in-SaysShell
unfolding inside
returns-in-SaysShell c F m =
    rw c.in-SaysShell.is
    (takes_then _ (λ x. claim x.0 x.1 _ _) refl (λ x so. is_claim so.0 so.1) (c.said.ensures F m))

pub returns-in-LeftShell : goal.returns-in-LeftShell
unfolding inside sides TwoSided
returns-in-LeftShell c F m =
    rw (c.in-LeftShell.is, c.side_inside.ensures)
    (takes_then _ (λ x. plain x.0 _ _) refl (λ x on. is_plain refl (λ h. omega arith) on.0) (c.sides_of-sides.ensures F tt m))

pub returns-in-RightShell : goal.returns-in-RightShell
unfolding inside sides TwoSided
returns-in-RightShell c F m =
    rw (c.in-RightShell.is, c.side_inside-in-RightShell.ensures)
    (takes_then _ (λ x. plain x.1 _ _) refl (λ x on. is_plain refl (λ h. omega arith) on.1) (c.sides_of-sides-in-RightShell.ensures F tt m))
