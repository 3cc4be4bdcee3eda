-- What refuses the records, the pairs or the proof refuses the case; where nothing does, it reads.
use Rattle.std.proofs.lemmas.Result.{err_from_is_err_and}
use Rattle.procap.proofs.Telling.{holds_else, fails_where}
use Rattle.verifier.proofs.Answers.{records_refuse, pairs_refuse, proof_refuses, case_reads}
use Rattle.verifier.proofs.verify.read_case.Goals as goal

pub returns-in_err-take_records : goal.returns-in_err-take_records
returns-in_err-take_records c =
    let p = err_from_is_err_and c.from_residual.result c.from_residual.ensures.1 in
    rw (p.1, p.2) (records_refuse _ _ _ _ _ _ _ c.in_err-take_records.ensures)

pub returns-then-pairs-gt-MOST_PAIRS : goal.returns-then-pairs-gt-MOST_PAIRS
returns-then-pairs-gt-MOST_PAIRS c = pairs_refuse _ _ _ _ _ _ c.in_ok-take_records.ensures c.if-pairs-gt-MOST_PAIRS.true

pub returns-then-not-well_formed : goal.returns-then-not-well_formed
returns-then-not-well_formed c =
    let tested = c.well_formed-2 in
    proof_refuses _ _ _ _ _ _ c.in_ok-take_records.ensures c.if-pairs-gt-MOST_PAIRS.false
    (fails_where tested.result c.if-not-well_formed.true-raw tested.ensures.tells)

pub returns : goal.returns
returns c =
    let tested = c.well_formed-2 in
    let found = holds_else tested.result c.if-not-well_formed.false-raw tested.ensures.tells in
    case_reads _ _ _ _ _ _ c.in_ok-take_records.ensures c.if-pairs-gt-MOST_PAIRS.false found.0 found.1 (λ M. tested.ensures.told M c.requires.ends)
