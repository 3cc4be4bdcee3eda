-- The places after the predicate and the count end where the whole does.
use Rattle.formula.proofs.PartsRead.{head_ends, no_head_ends}
use Rattle.formula.proofs.parts.past_head.Goals as goal

pub returns-in_err-head : goal.returns-in_err-head
returns-in_err-head c = no_head_ends _ _ _ c.in_err-head.ensures

pub returns : goal.returns
returns c = head_ends _ _ _ _ c.in_ok-head.ensures c.past_places.ensures
