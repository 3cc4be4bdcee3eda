-- What the public calls give back, each in the words of its contract, and a press at which the direct check answers 0.
use Rattle.std.specs.Prelude.{ℕ, ◌≡◌, List, length}
use Rattle.procap.specs.Outcome.{Outcome, answer_of, procap_handed}
use Rattle.procap.specs.declared.answer.Answer.{Answer}
use Rattle.procap.specs.declared.answer.Answer.TheVariants.{Granted}
use Rattle.procap.specs.declared.procap.Request.{Request}
use Rattle.procap.specs.declared.procap.Procap.{Procap}
use Rattle.bl.specs.declared.Certificate.{Certificate}
use Rattle.bl.specs.Calls.{verified, directly}
use Rattle.bl.specs.Accepting.{Somewhere}
use Rattle.text.specs.Text.{refusal_text}
use Rattle.text.specs.Calls.{reading, fitting, writing, Wrote}
use Rattle.text.specs.declared.reader.ReadText.{ReadText}
use Rattle.text.specs.declared.writer.WrittenText.{WrittenText}
use Rattle.door.specs.Door.{opening, opening_text, packed}
use Rattle.verifier.specs.declared.verify.Verified.{Verified}
use Rattle.cases.specs.Calls.{answering}
use Rattle.from_c.specs.Records.{records_in}
use Rattle.from_c.specs.Pairs.{pair_numbers}
use Rattle.from_c.specs.Packing.{HandsBack, number_in, packed as handed-to-c}
use Rattle.from_c.specs.Calls.{verifying, rewriting, value_writing, value_opening, opened_of}

-- A call that hands over a procap gives the answer and the procap of what it came to.
pub record GivesProcap (o : Outcome Procap) (given : Answer) (handed : Procap) : Type 0 where
  pub answer : given ≡ answer_of o
  pub procap : handed ≡ procap_handed o

-- `verify` gives an answer and a procap.
abbrev pub VerifyGives : Request → List Certificate → List ℕ → List ℕ → List ℕ → Verified → Type 0
VerifyGives r certificates buffer pairs proof v = GivesProcap (verified r certificates buffer pairs proof) v.answer v.procap

-- `direct` gives an answer, at a moment in a state.
abbrev pub DirectGives : Request → List Certificate → List ℕ → List ℕ → List ℕ → ℕ → List ℕ → Answer → Type 0
DirectGives r certificates buffer pairs proof m state answer = answer ≡ answer_of (directly r certificates buffer pairs proof m state)

-- `open`, the door on a value, gives an answer.
abbrev pub OpenGives : Procap → Request → ℕ → List ℕ → Answer → Type 0
OpenGives p r m state answer = answer ≡ answer_of (opening p r m state)

-- `procap_door`, the door on a text, gives a number.
abbrev pub DoorGives : List ℕ → Request → ℕ → List ℕ → ℕ → Type 0
DoorGives text r m state number = number ≡ packed (answer_of (opening_text text r m state))

-- `read_text` gives an answer and a procap.
abbrev pub ReadGives : List ℕ → ReadText → Type 0
ReadGives text v = GivesProcap (reading text) v.answer v.procap

-- `write_text` writes a procap's text.
abbrev pub WriteGives : Procap → List ℕ → WrittenText → List ℕ → Type 0
WriteGives p before w after = Wrote (writing p (length before)) before w after

-- `write_refusal` writes a refusal's two lines.
abbrev pub WriteRefusalGives : Answer → List ℕ → WrittenText → List ℕ → Type 0
WriteRefusalGives refusal before w after = Wrote (fitting (refusal_text refusal) (length before)) before w after

-- `answer_case`, the work of the program, writes what is printed for an input.
abbrev pub PrintGives : List ℕ → List ℕ → WrittenText → List ℕ → Type 0
PrintGives input before w after = Wrote (answering input (length before)) before w after

-- ── The calls for C ──

-- `office_verify` hands back a number, and leaves the procap's text in the buffer.
abbrev pub OfficeVerifyGives : Request → List ℕ → List ℕ → List ℕ → List ℕ → List ℕ → ℕ → List ℕ → Type 0
OfficeVerifyGives r records buffer pairs proof before number after = HandsBack (verifying r records buffer pairs proof (length before)) before number after

-- `office_direct` hands back a number.
abbrev pub OfficeDirectGives : Request → List ℕ → List ℕ → List ℕ → List ℕ → ℕ → List ℕ → ℕ → Type 0
OfficeDirectGives r records buffer pairs proof m state number = number ≡ handed-to-c (answer_of (directly r (records_in records) buffer (pair_numbers pairs) proof m state)) 0

-- `office_answer_case` hands back a number, and leaves in the buffer what is printed for an input.
abbrev pub OfficePrintGives : List ℕ → List ℕ → ℕ → List ℕ → Type 0
OfficePrintGives input before number after = HandsBack (answering input (length before)) before number after

-- `office_rewrite` hands back a number, and leaves in the buffer the text of what it read.
abbrev pub OfficeRewriteGives : List ℕ → List ℕ → ℕ → List ℕ → Type 0
OfficeRewriteGives text before number after = HandsBack (rewriting text (length before)) before number after

-- `office_write` hands back a number, and leaves in the buffer the text of a value.
abbrev pub OfficeWriteGives : List ℕ → List ℕ → ℕ → List ℕ → Type 0
OfficeWriteGives value before number after = HandsBack (value_writing value (length before)) before number after

-- `desk_door_on_value` hands back a number.
abbrev pub DeskOpenGives : List ℕ → Request → ℕ → List ℕ → ℕ → Type 0
DeskOpenGives value r m state number = number ≡ handed-to-c (answer_of (value_opening value r m state)) 0

-- `desk_presses` hands back how many of so many presses went through.
abbrev pub DeskPressesGives : List ℕ → Request → ℕ → List ℕ → ℕ → ℕ → Type 0
DeskPressesGives text r m state presses opened = opened ≡ opened_of (opening_text text r m state) presses

-- ── A press that is accepted ──

-- Somewhere `direct` answers 0.
abbrev pub AnsweredSomewhere : Request → List Certificate → List ℕ → List ℕ → List ℕ → Type 0
AnsweredSomewhere r certificates buffer pairs proof = Somewhere λ m state. DirectGives r certificates buffer pairs proof m state Granted

-- The same as C sees it: somewhere `office_direct` hands back a number that has 0 for its answer.
abbrev pub ZeroSomewhere : Request → List ℕ → List ℕ → List ℕ → List ℕ → Type 0
ZeroSomewhere r records buffer pairs proof =
    Somewhere λ m state. (number : ℕ) × OfficeDirectGives r records buffer pairs proof m state number × (number_in number ≡ 0)
