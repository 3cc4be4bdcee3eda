-- What verify hands over for the records and the pairs that are lent on is what it comes to for all. Where it issues no procap, its
-- answer is handed back; else the procap's text is written.
use mathlib.Core.Path.{◌∙◌}
use Rattle.procap.specs.Procaps.{request_of}
use Rattle.bl.specs.Calls.{verified}
use Rattle.verifier.specs.Verifying.{HandsOver}
use Rattle.from_c.specs.Records.{records_in}
use Rattle.from_c.specs.Pairs.{pair_numbers}
use Rattle.from_c.proofs.HandedBack.{hands_back_refused, hands_back_so_written}
use Rattle.from_c.proofs.OfficeCalls.{hands_over_all, verifying_stops, verifying_writes}
use Rattle.from_c.proofs.office.office_verify.Goals as goal
use Rattle.from_c.proofs.office.office_verify.Goals.{After-verify-verified}

-- What verify hands over is what it comes to for all records and pairs.
handed : (c : After-verify-verified)
    → HandsOver
    (verified (request_of c.args.who c.args.what c.args.right) (records_in c.args.records.now) c.args.buffer.now (pair_numbers c.args.pairs.now) c.args.proof.now)
    c.verify-verified.result
handed c =
    let verified = c.verify-verified.ensures in
    hands_over_all _ _ _ _ _ _ _ (c.lent.ensures ∙ c.records_in-records.ensures) (c.lent-2.ensures ∙ c.pair_numbers-pairs.ensures) _
    (record { answer = rw c.of-request.ensures at verified.answer; procap = rw c.of-request.ensures at verified.procap })

pub returns-in_default : goal.returns-in_default
returns-in_default c =
    let stops = verifying_stops _ _ _ _ _ _ _ (handed (goal.at.returns-in_default c).After-verify-verified) c.in_default.not-Granted in
    let handed = hands_back_refused _ _ _ _ c.as_number.ensures stops in
    record { answer = handed.0; buffer = handed.1 }

pub returns : goal.returns
returns c =
    let written = c.write_text-written in
    let writes = verifying_writes _ _ _ _ _ _ _ (handed (goal.at.returns c).After-verify-verified) c.in-Granted.is in
    let handed = hands_back_so_written _ _ _ _ _ written.result c.as_number-2.ensures written.ensures writes in
    record { answer = handed.0; buffer = handed.1 }
