-- What verify hands over is what it comes to: no refusal of it is a grant.
use mathlib.Core.Path.{◌≡◌}
use Rattle.procap.specs.Outcome.{answer_of, procap_handed}
use Rattle.cases.specs.Found.{verified_in}
use Rattle.cases.proofs.Refusals.{verified_refuses}
use Rattle.cases.proofs.OutcomesHanded.{procap_is_granted, answer_refuses}
use Rattle.cases.proofs.answering.verified.Goals as goal
use Rattle.cases.proofs.answering.verified.Goals.{After-verify-verified}

-- What is lent to verify is what was read.
answer : (c : After-verify-verified) → c.verify-verified.result.answer ≡ answer_of (verified_in c.args.bytes.now c.args.case.now)
answer c = rw (c.lent.ensures, c.split_at.ensures.front, c.split_at.ensures.back) at c.verify-verified.ensures.answer

procap : (c : After-verify-verified) → c.verify-verified.result.procap ≡ procap_handed (verified_in c.args.bytes.now c.args.case.now)
procap c = rw (c.lent.ensures, c.split_at.ensures.front, c.split_at.ensures.back) at c.verify-verified.ensures.procap

pub returns-in-Granted : goal.returns-in-Granted
returns-in-Granted c =
    let after = (goal.at.returns-in-Granted c).After-verify-verified in
    procap_is_granted _ _ _ (verified_refuses _ _ _ _ _) (answer after) (procap after) c.in-Granted.is

pub returns-in_default : goal.returns-in_default
returns-in_default c =
    answer_refuses _ _ (answer (goal.at.returns-in_default c).After-verify-verified) c.in_default.not-Granted
