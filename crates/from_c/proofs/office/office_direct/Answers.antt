-- The direct check answers for the records and the pairs that are lent on as for all, and its answer is handed back as one number.
use mathlib.Core.Path.{◌∙◌}
use Rattle.from_c.proofs.OfficeCalls.{packs_for_all}
use Rattle.from_c.proofs.office.office_direct.Goals as goal

pub returns : goal.returns
returns c =
    let answers = rw c.of-request.ensures at c.direct-answer.ensures in
    packs_for_all _ _ _ _ _ _ _ (c.lent.ensures ∙ c.records_in-records.ensures) (c.lent-2.ensures ∙ c.pair_numbers-pairs.ensures) _ _ _ _ c.as_number.ensures answers
