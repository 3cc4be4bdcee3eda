-- With its tag "says" has a place and then its formula; where that is not a name, or with another tag, it is a misfit.
use mathlib.Core.Path.{refl, ◌∙◌, ap}
use Rattle.procap.proofs.Telling.{holds_else, fails_where}
use Rattle.bl.specs.Trees.{Formula, fixed}
use Rattle.formula.specs.Meaning.{Means}
use Rattle.judging.specs.Judging.{takes, unfit}
use Rattle.formula.proofs.Shapes.{not_says}
use Rattle.judging.proofs.WalkParts.{no_says, no_name, says_there}
use Rattle.judging.proofs.PartsTaken.{part_on}
use Rattle.judging.proofs.PlacesTaken.{is_fixed, is_bound, bound_no_name, time_no_name, says_read, somebody_says, SaysRead}
use Rattle.judging.proofs.judge.said.Goals as goal
use Rattle.judging.proofs.judge.said.Goals.{In-Some}

-- The place and the formula, where both are read.
read : (c : In-Some) {F : Formula} → Means c.args.bytes.now 0 c.args.judgement.formula F
    → SaysRead c.args.bytes.now c.args.judgement.formula F c.in-Some.place c.in-Some.next
read c m =
    let tag = holds_else c.is_a.result c.if-not-is_a.false-raw c.is_a.ensures in
    says_read m c.past.ensures.there tag c.in-Some.ensures

pub returns-then-not-is_a : goal.returns-then-not-is_a
returns-then-not-is_a c =
    let told = c.is_a in
    λ F m. unfit (no_says _ (not_says _ 0 _ m (fails_where told.result c.if-not-is_a.true-raw told.ensures))) c.not_inside.ensures

pub returns-in_default : goal.returns-in_default
returns-in_default c =
    λ F m.
    let tag = holds_else c.is_a.result c.if-not-is_a.false-raw c.is_a.ensures in
    absurd (somebody_says m c.past.ensures.there tag c.in_default.ensures)

pub returns-in_default-place : goal.returns-in_default-place
returns-in_default-place c =
    λ F m.
    let r = read (goal.at.returns-in_default-place c).In-Some m in
    unfit (no_name _ r.is (bound_no_name (is_bound r.named c.in_default-place.is))) c.not_inside-in_default-place.ensures

pub returns-in_default-term : goal.returns-in_default-term
returns-in_default-term c =
    λ F m.
    let r = read (goal.at.returns-in_default-term c).In-Some m in
    let who = is_fixed r.named c.in-Fixed.is ∙ ap fixed c.in_default-term.is in
    unfit (no_name _ r.is (time_no_name who)) c.not_inside-in_default-term.ensures

pub returns : goal.returns
returns c =
    λ F m.
    let r = read (goal.at.returns c).In-Some m in
    let who = is_fixed r.named c.in-Fixed.is ∙ ap fixed c.in-Name.is in
    takes (_, r.said) (says_there _ r.is who) refl (refl, part_on c.args.judgement c.part_at.ensures refl r.means)
