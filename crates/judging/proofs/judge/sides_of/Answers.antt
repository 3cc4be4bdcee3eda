-- With the tag wanted the first side begins after it, and the second where the first ends; any other tag is a misfit.
use Rattle.procap.proofs.Telling.{holds_else, fails_where}
use Rattle.judging.proofs.PartsTaken.{sides_there, sides_missing, first_ends}
use Rattle.judging.proofs.judge.sides_of.Goals as goal

pub returns-then-not-is_a : goal.returns-then-not-is_a
returns-then-not-is_a c =
    let told = c.is_a in
    λ F two m. sides_missing m _ _ two (fails_where told.result c.if-not-is_a.true-raw told.ensures) c.no_sides.ensures

pub returns-in_default : goal.returns-in_default
returns-in_default c =
    λ F two m.
    absurd (first_ends c.args.judgement m 0 _ two (holds_else c.is_a.result c.if-not-is_a.false-raw c.is_a.ensures) c.past-first.ensures.there c.in_default.ensures)

pub returns : goal.returns
returns c =
    λ F two m.
    sides_there _ m _ _ two (holds_else c.is_a.result c.if-not-is_a.false-raw c.is_a.ensures) c.past-first.ensures.there c.in-Some.ensures
