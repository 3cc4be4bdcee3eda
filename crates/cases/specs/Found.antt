-- How what the code reads of a case stands to the readers of these pages. What is promised of answering a case does not rest on this.
use Rattle.std.specs.Prelude.{ℕ, ◌+◌, ◌*◌, ◌≤◌, ◌<◌, true, false, ◌≡◌, List, [], ◌∷◌, ◌++◌, length, take, drop, None, Ok, Option, Result, Some}
use Rattle.procap.specs.Outcome.{Outcome}
use Rattle.procap.specs.declared.time.Time.{Time}
use Rattle.procap.specs.declared.procap.Procap.{Procap}
use Rattle.text.specs.LinesInARow.{Lines, one_line}
use Rattle.text.specs.Places.{Reads}
use Rattle.text.specs.declared.line.BrokenLine.{BrokenLine}
use Rattle.bl.specs.Calls.{verified}
use Rattle.bl.specs.declared.Certificate.{Certificate}
use Rattle.cases.specs.Hex.{is_hex, hex_value, leading_hex, paired}
use Rattle.cases.specs.CaseLines.{nothing_more}
use Rattle.cases.specs.Case.{Group, Case, buffer_of, record_at, records_from}
use Rattle.cases.specs.declared.groups.Heading.{Heading}
use Rattle.cases.specs.declared.case.CaseRead.{CaseRead}

-- ── Hex ──

-- What a byte says as a hex digit.
abbrev pub DigitSays : ℕ → Option ℕ → Type 0
DigitSays b (Some d) = (is_hex b ≡ true) × (hex_value b ≡ d) × (d < 16)
DigitSays b None = is_hex b ≡ false

-- The hex digits from a place on begin with one that says this, or there are none.
abbrev pub DigitReads : List ℕ → ℕ → Option ℕ → Type 0
DigitReads input at (Some d) =
    (b : ℕ) × (hex_value b ≡ d) × (d < 16) × (at < length input) × (leading_hex (drop at input) ≡ b ∷ leading_hex (drop (at + 1) input))
DigitReads input at None = leading_hex (drop at input) ≡ []

-- The hex digits from a place on begin with two that say this byte.
pub record PairFound (input : List ℕ) (at byte : ℕ) : Type 0 where
  pub high : ℕ
  pub low : ℕ
  pub say : hex_value high * 16 + hex_value low ≡ byte
  pub inside : at + 1 < length input
  pub stand : leading_hex (drop at input) ≡ high ∷ low ∷ leading_hex (drop (at + 2) input)

-- They do, or there are fewer than two.
abbrev pub PairReads : List ℕ → ℕ → Option ℕ → Type 0
PairReads input at (Some byte) = PairFound input at byte
PairReads input at None = length (leading_hex (drop at input)) ≤ 1

-- Of the hex digits from a place on all pairs were taken, up to the next place, and what they say was put behind the bytes before.
pub record PairsPut (input : List ℕ) (at : ℕ) (before : List ℕ) (next : ℕ) (after : List ℕ) : Type 0 where
  pub digits : List ℕ
  pub all_digits : leading_hex (drop at input) ≡ digits ++ leading_hex (drop next input)
  pub two_by_two : length digits ≡ 2 * length (paired digits)
  pub one_left : length (leading_hex (drop next input)) ≤ 1
  pub place : next ≡ at + length digits
  pub put : after ≡ before ++ paired digits

-- ── Lines ──

-- How far a case is read: up to a line with a number, which begins at a place; and the bytes that the lines of hex before it say.
pub record ReadSoFar : Type 0 where
  pub input : List ℕ
  pub line : ℕ
  pub at : ℕ
  pub bytes : List ℕ

-- At first.
abbrev pub begun : List ℕ → ReadSoFar
begun input = record { input = input; line = 1; at = 0; bytes = [] }

-- From there on to the next line.
abbrev pub gone_to : ReadSoFar → ℕ → ReadSoFar
gone_to s next = record { input = s.input; line = s.line + 1; at = next; bytes = s.bytes }

-- Some lines were found from where a case was read so far; it is read up to the line after them, and what is handed back is so of them.
pub record WentOn {A B : Type 0} (o : Outcome (A × ℕ × ℕ)) (old new : ReadSoFar) (IsOf : A → B → Type 0) (b : B) : Type 0 where
  pub found : A
  pub reads : o ≡ Ok (found, new.line, new.at)
  pub same : new.input ≡ old.input
  pub is_of : IsOf found b

-- They were, or a line breaks their form.
abbrev pub GoesOn : {A B : Type 0} → (List ℕ → Lines A) → ReadSoFar → ReadSoFar → (A → B → Type 0) → Result B BrokenLine → Type 0
GoesOn lines old new IsOf r = Reads (lines old.input old.line old.at) (WentOn (lines old.input old.line old.at) old new IsOf) r

-- Nothing more stands there, or the line that does breaks the form.
abbrev pub Ends : ReadSoFar → Result (Unit {0}) BrokenLine → Type 0
Ends s r = Reads (one_line (nothing_more s.input) s.line s.at) (λ _. s.at ≡ length s.input) r

-- The value itself is handed back, and no bytes are put.
abbrev pub Told : {A : Type 0} → ReadSoFar → ReadSoFar → A → A → Type 0
Told old new a b = (b ≡ a) × (new.bytes ≡ old.bytes)

-- So it is with what the lines of a group before its formula say.
abbrev pub HeadingTold : ReadSoFar → ReadSoFar → ℕ × Time × Time → Heading → Type 0
HeadingTold old new h r = ((r.by, r.from, r.to) ≡ h) × (new.bytes ≡ old.bytes)

-- The record of a group is handed back, and its formula is put behind the bytes before.
abbrev pub GroupPut : ReadSoFar → ReadSoFar → Group → Certificate → Type 0
GroupPut old new g c = (c ≡ record_at (length old.bytes) g) × (new.bytes ≡ old.bytes ++ g.says)

-- The records of groups are handed back, and their formulas are put.
abbrev pub GroupsPut : ReadSoFar → List Group → List Certificate → Type 0
GroupsPut new gs cs = (cs ≡ records_from 0 gs) × (new.bytes ≡ buffer_of gs)

-- The case, its records, and the bytes of its formulas, up to `split`, and of its proof.
pub record CaseFound (o : Outcome (Case × ℕ × ℕ)) (r : CaseRead) (bytes : List ℕ) : Type 0 where
  pub found : Case
  pub line : ℕ
  pub next : ℕ
  pub reads : o ≡ Ok (found, line, next)
  pub its_request : r.request ≡ found.request
  pub its_records : r.certificates ≡ records_from 0 found.groups
  pub its_split : r.split ≡ length (buffer_of found.groups)
  pub its_bytes : bytes ≡ buffer_of found.groups ++ found.proof

abbrev pub CaseReads : Outcome (Case × ℕ × ℕ) → Result CaseRead BrokenLine → List ℕ → Type 0
CaseReads o r bytes = Reads o (λ c. CaseFound o c bytes) r

-- What verify comes to for a case that was read, with the formulas and the proof in these bytes.
abbrev pub verified_in : List ℕ → CaseRead → Outcome Procap
verified_in bytes c = verified c.request c.certificates (take c.split bytes) [] (drop c.split bytes)
