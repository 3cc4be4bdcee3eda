-- Where the bytes are no text, the reader's answer is handed back; else the procap that they say is written.
use Rattle.from_c.proofs.HandedBack.{hands_back_refused, hands_back_so_written}
use Rattle.from_c.proofs.OfficeCalls.{rewriting_stops, rewriting_writes}
use Rattle.from_c.proofs.office.office_rewrite.Goals as goal

pub returns-in_default : goal.returns-in_default
returns-in_default c =
    let stops = rewriting_stops _ _ _ c.read_text-read.ensures.answer c.in_default.not-Granted in
    let handed = hands_back_refused _ _ _ _ c.as_number.ensures stops in
    record { answer = handed.0; buffer = handed.1 }

pub returns : goal.returns
returns c =
    let written = c.write_text-rewritten in
    let read = c.read_text-read.ensures in
    let writes = rewriting_writes _ _ _ read.answer c.in-Granted.is _ read.procap in
    let handed = hands_back_so_written _ _ _ _ _ written.result c.as_number-2.ensures written.ensures writes in
    record { answer = handed.0; buffer = handed.1 }
