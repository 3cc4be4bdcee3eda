-- What is written for the case is handed back as one number.
use Rattle.from_c.proofs.HandedBack.{hands_back_written}
use Rattle.from_c.proofs.office.office_answer_case.Goals as goal

pub returns : goal.returns
returns c =
    let written = c.answer_case-printed in
    let handed = hands_back_written _ _ _ _ written.result c.as_number.ensures written.ensures in
    record { answer = handed.0; buffer = handed.1 }
