-- Bytes of another length than a value's are no value, and refused. Of the others the value is written.
use Rattle.from_c.proofs.HandedBack.{hands_back_refused, hands_back_so_written}
use Rattle.from_c.proofs.OfficeCalls.{value_writing_stops, value_writing_writes}
use Rattle.from_c.proofs.office.office_write.Goals as goal

pub returns-then-value-ne-VALUE_BYTES : goal.returns-then-value-ne-VALUE_BYTES
returns-then-value-ne-VALUE_BYTES c =
    let handed = hands_back_refused _ _ _ _ c.as_number.ensures (value_writing_stops _ _ c.if-value-ne-VALUE_BYTES.true) in
    record { answer = handed.0; buffer = handed.1 }

pub returns : goal.returns
returns c =
    let written = c.write_text-written in
    let writes = value_writing_writes _ _ c.if-value-ne-VALUE_BYTES.false _ c.value_of.ensures in
    let handed = hands_back_so_written _ _ _ _ _ written.result c.as_number-2.ensures written.ensures writes in
    record { answer = handed.0; buffer = handed.1 }
