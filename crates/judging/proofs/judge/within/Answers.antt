-- The comparison, and then the intervals.
use Rattle.judging.proofs.JudgingLaws.{fits}
use Rattle.judging.proofs.judge.within.Goals as goal

pub returns : goal.returns
returns c =
    λ state list F a b G s on m.
    let compared = (c.same-compared.ensures F G on.means m on.means.low state list s).0 in
    fits _ F G _ _ on.from on.to compared (c.covers.ensures state list compared.sound)
