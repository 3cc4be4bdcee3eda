-- What the reader and the writer of the text answer, and what the writer leaves in the buffer.
use Rattle.std.specs.Prelude.{ℕ, ◌≡◌, List, ◌++◌, length, drop, Err, Ok, Option}
use Rattle.std.proofs.Math.Decide.{dec_le}
use Rattle.procap.specs.Outcome.{Outcome, go_on, or_else, require, answer_of}
use Rattle.procap.specs.Bytes.{to_the_end}
use Rattle.procap.specs.Deciding.{writable?}
use Rattle.procap.specs.declared.answer.Answer.TheVariants.{ProcapMalformed, BufferShort}
use Rattle.procap.specs.declared.procap.Request.{Request}
use Rattle.procap.specs.declared.procap.Procap.{Procap}
use Rattle.text.specs.Text.{text_of}
use Rattle.text.specs.Reader.{procap_with, text_in}
use Rattle.text.specs.declared.writer.WrittenText.{WrittenText}

-- [Numbers 12] The procap that was read, if it ends where the bytes do.
abbrev pub read_to_the_end : List ℕ → Option (Procap × ℕ) → Outcome Procap
read_to_the_end bytes o = or_else ProcapMalformed (to_the_end bytes o)

-- The same of what comes after the moments: the lines of the facts, for a request and two moments that were read.
abbrev pub facts_to_the_end : List ℕ → Request → ℕ → ℕ → ℕ → Outcome Procap
facts_to_the_end bytes request from to at = read_to_the_end bytes (procap_with bytes request from to at)

-- [Numbers 12; D8] The procap that the bytes say.
unfoldable pub reading : List ℕ → Outcome Procap
reading bytes = or_else ProcapMalformed (text_in bytes)

-- [Numbers 13] A text that is to be written, into a buffer with so much room.
unfoldable pub fitting : List ℕ → ℕ → Outcome (List ℕ)
fitting text room = go_on (require BufferShort (dec_le (length text) room)) λ _. Ok text

-- [Numbers 12, 13] The procap's text, into a buffer with so much room: 12 comes before 13.
unfoldable pub writing : Procap → ℕ → Outcome (List ℕ)
writing p room = go_on (require ProcapMalformed (writable? p)) λ _. fitting (text_of p) room

-- [Numbers, refusals] The length that the writer gives: the text's, and 0 when it refuses.
unfoldable pub length_given : Outcome (List ℕ) → ℕ
length_given (Ok text) = length text
length_given (Err answer) = 0

-- [Numbers, refusals] What stands in the buffer afterwards: the text, and past it what was there; when it refuses, all as it was.
unfoldable pub buffer_left : Outcome (List ℕ) → List ℕ → List ℕ
buffer_left (Ok text) buffer = text ++ drop (length text) buffer
buffer_left (Err answer) buffer = buffer

-- What a write comes to, by the length of its text.
abbrev pub length_of : Outcome (List ℕ) → Outcome ℕ
length_of (Ok text) = Ok (length text)
length_of (Err answer) = Err answer

-- What a write came to is the text's length, or the answer that refuses it, and it leaves the lent buffer `before` as `after`.
pub record Left (o : Outcome (List ℕ)) (before : List ℕ) (r : Outcome ℕ) (after : List ℕ) : Type 0 where
  pub gives : r ≡ length_of o
  pub buffer : after ≡ buffer_left o before

-- A call that writes gives the answer and the length of what it came to, and leaves the lent buffer `before` as `after`.
pub record Wrote (o : Outcome (List ℕ)) (before : List ℕ) (w : WrittenText) (after : List ℕ) : Type 0 where
  pub answer : w.answer ≡ answer_of o
  pub length_told : w.length ≡ length_given o
  pub buffer : after ≡ buffer_left o before
