-- [Program] What a case says: a request, certificates with the bytes of their formulas, and the bytes of a proof.
use Rattle.std.specs.Prelude.{ℕ, zero, suc, ◌+◌, List, [], ◌∷◌, ◌++◌, length, Ok}
use Rattle.std.proofs.Math.Decide.{dec_le}
use Rattle.procap.specs.Writable.{largest_name}
use Rattle.procap.specs.Outcome.{Outcome, go_on, require}
use Rattle.procap.specs.declared.answer.Answer.TheVariants.{InputMalformed}
use Rattle.procap.specs.declared.time.Time.{Time}
use Rattle.procap.specs.declared.procap.Request.{Request}
use Rattle.bl.specs.Certificates.{most_certificates}
use Rattle.bl.specs.declared.Certificate.{Certificate}
use Rattle.text.specs.Words.{bytes_of}
use Rattle.text.specs.Line.{line_to}
use Rattle.text.specs.LinesInARow.{Lines, ◌>>=◌, give, one_line}
use Rattle.text.specs.RequestLines.{request_lines}
use Rattle.cases.specs.CaseLines.{time_line, hex_line, nothing_more}

-- [Numbers 14] How many bytes the input may have.
abbrev pub most_input : ℕ
most_input = 65_536

-- The groups begin after the request's three lines and that of their count.
abbrev pub first_group_line : ℕ
first_group_line = 5

-- [Program] A group: who says a formula, from when and to when, and the formula's bytes.
pub record Group : Type 0 where
  pub by : ℕ
  pub from : Time
  pub to : Time
  pub says : List ℕ

-- [Program] All that a case says.
pub record Case : Type 0 where
  pub request : Request
  pub groups : List Group
  pub proof : List ℕ

module _ (bytes : List ℕ) where
  -- [Program] The first three lines of a group.
  unfoldable pub heading : Lines (ℕ × Time × Time)
  heading = do
    by ← one_line (line_to bytes (bytes_of "by=") largest_name)
    from ← one_line (time_line bytes (bytes_of "from="))
    to ← one_line (time_line bytes (bytes_of "to="))
    give (by, from, to)

  -- [Program] The four lines of a group.
  unfoldable pub group : Lines Group
  group = do
    h ← heading
    says ← one_line (hex_line bytes (bytes_of "says="))
    give (record { by = h.0; from = h.1; to = h.2; says = says })

  -- [Program] So many groups.
  unfoldable pub groups : ℕ → Lines (List Group)
  groups zero = give []
  groups (suc n) = do
    g ← group
    gs ← groups n
    give (g ∷ gs)

  -- [Program; D58] The case of a request with so many groups: these, the proof's line, and nothing after it.
  unfoldable pub case_with : Request → ℕ → Lines Case
  case_with r count = do
    gs ← groups count
    proof ← one_line (hex_line bytes (bytes_of "proof="))
    _ ← one_line (nothing_more bytes)
    give (record { request = r; groups = gs; proof = proof })

  -- [Program; D60] All lines of a case.
  unfoldable pub case_lines : Lines Case
  case_lines = do
    r ← request_lines bytes
    count ← one_line (line_to bytes (bytes_of "certs=") most_certificates)
    case_with r count

-- [Numbers 14; D54] The case that the input says: too long is place 0; lines are counted from 1.
unfoldable pub case_in : List ℕ → Outcome Case
case_in bytes =
    go_on (require (InputMalformed 0) (dec_le (length bytes) most_input)) λ _.
    go_on (case_lines bytes 1 0) λ x.
    Ok x.0

-- [D62] The formulas of the groups as one buffer, one after another.
unfoldable pub buffer_of : List Group → List ℕ
buffer_of [] = []
buffer_of (g ∷ gs) = g.says ++ buffer_of gs

-- The record of a group whose formula begins at this place of the buffer.
abbrev pub record_at : ℕ → Group → Certificate
record_at start g = record { principal = g.by; from = g.from; to = g.to; start = start; length = length g.says }

-- The records of groups whose formulas stand in the buffer from this place on.
unfoldable pub records_from : ℕ → List Group → List Certificate
records_from start [] = []
records_from start (g ∷ gs) = record_at start g ∷ records_from (start + length g.says) gs
