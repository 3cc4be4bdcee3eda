-- [Program] What the program prints for its input.
use Rattle.std.specs.Prelude.{ℕ, List, [], Err, Ok}
use Rattle.procap.specs.Outcome.{Outcome, go_on}
use Rattle.procap.specs.declared.procap.Procap.{Procap}
use Rattle.bl.specs.Calls.{verified}
use Rattle.text.specs.Text.{text_of, refusal_text}
use Rattle.text.specs.Calls.{fitting}
use Rattle.cases.specs.Case.{case_in, buffer_of, records_from}

-- [Program; D61] What a case comes to: 14 where the input is no case, and else what verify answers to what it says.
unfoldable pub checked : List ℕ → Outcome Procap
checked input =
    go_on (case_in input) λ c.
    verified c.request (records_from 0 c.groups) (buffer_of c.groups) [] c.proof

-- [Program] The text of the procap, or the refusal's number and place.
unfoldable pub printed_of : Outcome Procap → List ℕ
printed_of (Ok p) = text_of p
printed_of (Err answer) = refusal_text answer

-- [Program] What is printed for this input.
unfoldable pub printed : List ℕ → List ℕ
printed input = printed_of (checked input)

-- [Numbers 13; D63] What is to be printed, into a buffer with so much room.
unfoldable pub answering : List ℕ → ℕ → Outcome (List ℕ)
answering input room = fitting (printed input) room
