-- What a call hands back to C: one number for an answer with a length.
use Rattle.std.specs.Prelude.{ℕ, ◌+◌, ◌*◌, ◌/◌, ◌%◌, ◌≡◌, List}
use Rattle.procap.specs.Answers.{number_of, place_of}
use Rattle.procap.specs.Outcome.{Outcome, answer_of}
use Rattle.procap.specs.declared.answer.Answer.{Answer}
use Rattle.text.specs.Calls.{length_given, buffer_left}

-- How many lengths, of 16 bits, and how many places, of 32 bits, there are. All that a call gives are below these bounds.
abbrev pub lengths : ℕ
lengths = 65536

abbrev pub places : ℕ
places = 4294967296

-- The number, then the length, then the place.
abbrev pub packed : Answer → ℕ → ℕ
packed answer length = (number_of answer * lengths + length % lengths) * places + place_of answer % places

-- What a call that writes a text hands back.
abbrev pub packed_text : Outcome (List ℕ) → ℕ
packed_text o = packed (answer_of o) (length_given o)

-- A call that writes hands back this number, and leaves of the lent buffer what its outcome says.
abbrev pub HandsBack : Outcome (List ℕ) → List ℕ → ℕ → List ℕ → Type 0
HandsBack o before number after = (number ≡ packed_text o) × (after ≡ buffer_left o before)

-- The answer's number, the length and the place, as a caller takes them out of what is handed back.
abbrev pub number_in : ℕ → ℕ
number_in n = n / places / lengths

abbrev pub length_in : ℕ → ℕ
length_in n = n / places % lengths

abbrev pub place_in : ℕ → ℕ
place_in n = n % places
