-- What the calls for C come to, in the words of the calls that they pass on.
use Rattle.std.specs.Prelude.{ℕ, List, length, Err, Ok}
use Rattle.procap.specs.Lent.{Lent, LentToWrite}
use Rattle.procap.specs.Procaps.{request_of}
use Rattle.procap.specs.Outcome.{Outcome, go_on}
use Rattle.procap.specs.declared.procap.Request.{Request}
use Rattle.bl.specs.Calls.{verified, directly}
use Rattle.text.specs.Calls.{reading, writing}
use Rattle.door.specs.Door.{opening}
use Rattle.from_c.specs.Records.{records_in}
use Rattle.from_c.specs.Pairs.{pair_numbers}
use Rattle.from_c.specs.Values.{value_in}

-- Verify, and then the text of the procap into a buffer with so much room.
unfoldable pub verifying : Request → List ℕ → List ℕ → List ℕ → List ℕ → ℕ → Outcome (List ℕ)
verifying r records buffer pairs proof room = go_on (verified r (records_in records) buffer (pair_numbers pairs) proof) λ p. writing p room

-- The same for the request of three numbers, over what is lent; and the direct check.
abbrev pub verifying_over : ℕ → ℕ → ℕ → Lent → Lent → Lent → Lent → LentToWrite → Outcome (List ℕ)
verifying_over who what right records buffer pairs proof out =
    verifying (request_of who what right) records.entry.now buffer.entry.now pairs.entry.now proof.entry.now (length out.entry.now)

abbrev pub checking_over : ℕ → ℕ → ℕ → Lent → Lent → Lent → Lent → ℕ → Lent → Outcome (Unit {0})
checking_over who what right records buffer pairs proof moment state =
    directly (request_of who what right) (records_in records.entry.now) buffer.entry.now (pair_numbers pairs.entry.now) proof.entry.now moment state.entry.now

-- A text is read, and the procap that it says is written again.
unfoldable pub rewriting : List ℕ → ℕ → Outcome (List ℕ)
rewriting text room = go_on (reading text) λ p. writing p room

-- The text of a value.
unfoldable pub value_writing : List ℕ → ℕ → Outcome (List ℕ)
value_writing value room = go_on (value_in value) λ p. writing p room

-- The same over what is lent.
abbrev pub value_writing_over : Lent → LentToWrite → Outcome (List ℕ)
value_writing_over value out = value_writing value.entry.now (length out.entry.now)

-- The door on a value.
unfoldable pub value_opening : List ℕ → Request → ℕ → List ℕ → Outcome (Unit {0})
value_opening value r m state = go_on (value_in value) λ p. opening p r m state

-- The same for the request of three numbers, over what is lent.
abbrev pub value_opening_over : Lent → ℕ → ℕ → ℕ → ℕ → Lent → Outcome (Unit {0})
value_opening_over value who what right moment state = value_opening value.entry.now (request_of who what right) moment state.entry.now

-- How many of so many presses go through, if one such press comes to this.
unfoldable pub opened_of : Outcome (Unit {0}) → ℕ → ℕ
opened_of (Ok _) presses = presses
opened_of (Err answer) presses = 0
