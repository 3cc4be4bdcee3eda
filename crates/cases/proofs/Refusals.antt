-- No refusal of verify, of the reader and the writer of a text, or of a case has the number of a grant.
use Prim.Native.Nat.{ℕ, zero, suc, ◌<◌}
use mathlib.Core.List.{List, []}
use Rattle.std.specs.Prelude.{None, Option, Some}
use native.Mathlib.Decide.{dec_le}
use native.Mathlib.Omega.{arith}
use lib.ListN.{length}
use Rattle.procap.specs.Answers.{number_of}
use Rattle.procap.specs.Deciding.{writable?}
use Rattle.procap.specs.declared.answer.Answer.{Answer}
use Rattle.procap.specs.declared.answer.Answer.TheVariants.{ProcapMalformed, BufferShort, InputMalformed}
use Rattle.procap.specs.declared.procap.Request.{Request}
use Rattle.procap.specs.declared.procap.Procap.{Procap}
use Rattle.procap.proofs.Refused.{IfRefused, go_on_refused, require_refused, or_else_refused}
use Rattle.bl.specs.declared.Certificate.{Certificate}
use Rattle.bl.specs.Calls.{verified}
use Rattle.bl.proofs.CallRefusals.{case_refused, run_refused, issue_refused}
use Rattle.text.specs.Text.{text_of}
use Rattle.text.specs.Reader.{text_in}
use Rattle.text.specs.LinesInARow.{at_line}
use Rattle.text.specs.RequestLines.{request_lines}
use Rattle.text.specs.Calls.{reading, fitting, writing}
use Rattle.cases.specs.Case.{most_input, heading, group, groups, case_with, case_lines, case_in, buffer_of, records_from}
use Rattle.cases.specs.Calls.{checked}

-- An answer of a refusal: its number is not 0.
abbrev pub Refuses : Answer → Type 0
Refuses answer = 0 < number_of answer

-- Where verify is refused, it is so with the answer of a refusal.
pub verified_refuses : (r : Request) (records : List Certificate) (buffer pairs proof : List ℕ) → IfRefused Refuses (verified r records buffer pairs proof)
unfolding verified
verified_refuses r records buffer pairs proof =
    go_on_refused Refuses _ _ (case_refused Refuses (λ i. omega arith) (omega arith) (omega arith) records buffer pairs proof) λ x _.
    go_on_refused Refuses _ _ (run_refused Refuses (λ q. omega arith) (λ q. omega arith) (λ q. omega arith) _ _ _) λ w _.
    issue_refused Refuses (omega arith) r w.1

-- ── Texts ──

pub reading_refuses : (text : List ℕ) → IfRefused Refuses (reading text)
unfolding reading
reading_refuses text = or_else_refused Refuses ProcapMalformed (text_in text) (omega arith)

pub writing_refuses : (p : Procap) (room : ℕ) → IfRefused Refuses (writing p room)
unfolding writing fitting
writing_refuses p room =
    go_on_refused Refuses _ _ (require_refused Refuses ProcapMalformed (writable? p) (omega arith)) λ _ _.
    go_on_refused Refuses _ _ (require_refused Refuses BufferShort (dec_le (length (text_of p)) room) (omega arith)) λ _ _.
    tt

-- ── A case: a line that breaks the form is 14, and what comes after is for verify to answer ──

-- One line.
line_refuses : {A : Type 0} (line : ℕ) (o : Option (A × ℕ)) → IfRefused Refuses (at_line line o)
unfolding at_line
line_refuses line None = omega arith
line_refuses line (Some x) = tt

module _ (bytes : List ℕ) where
  request_refuses : (line at : ℕ) → IfRefused Refuses (request_lines bytes line at)
  unfolding request_lines
  request_refuses line at =
      go_on_refused Refuses _ _ (line_refuses line _) λ a _.
      go_on_refused Refuses _ _ (line_refuses a.1 _) λ b _.
      go_on_refused Refuses _ _ (line_refuses b.1 _) λ c _.
      tt

  group_refuses : (line at : ℕ) → IfRefused Refuses (group bytes line at)
  unfolding group heading
  group_refuses line at =
      go_on_refused Refuses _ _
      (go_on_refused Refuses _ _ (line_refuses line _) λ a _.
      go_on_refused Refuses _ _ (line_refuses a.1 _) λ b _.
      go_on_refused Refuses _ _ (line_refuses b.1 _) λ c _. tt) λ h _.
      go_on_refused Refuses _ _ (line_refuses h.1 _) λ s _.
      tt

  groups_refuse : (n line at : ℕ) → IfRefused Refuses (groups bytes n line at)
  unfolding groups
  groups_refuse zero line at = tt
  groups_refuse (suc n) line at =
      go_on_refused Refuses _ _ (group_refuses line at) λ g _.
      go_on_refused Refuses _ _ (groups_refuse n g.1 g.2) λ gs _.
      tt

  case_refuses : (r : Request) (n line at : ℕ) → IfRefused Refuses (case_with bytes r n line at)
  unfolding case_with
  case_refuses r n line at =
      go_on_refused Refuses _ _ (groups_refuse n line at) λ gs _.
      go_on_refused Refuses _ _ (line_refuses gs.1 _) λ p _.
      go_on_refused Refuses _ _ (line_refuses p.1 _) λ e _.
      tt

  input_refuses : IfRefused Refuses (case_in bytes)
  unfolding case_in case_lines
  input_refuses =
      go_on_refused Refuses _ _ (require_refused Refuses (InputMalformed 0) (dec_le (length bytes) most_input) (omega arith)) λ _ _.
      go_on_refused Refuses _ _
      (go_on_refused Refuses _ _ (request_refuses 1 0) λ r _.
      go_on_refused Refuses _ _ (line_refuses r.1 _) λ n _. case_refuses r.0 n.0 n.1 n.2) λ x _.
      tt

-- What a case comes to is refused with the number of a refusal.
pub checked_refuses : (input : List ℕ) → IfRefused Refuses (checked input)
unfolding checked
checked_refuses input =
    go_on_refused Refuses _ _ (input_refuses input) λ c _. verified_refuses c.request (records_from 0 c.groups) (buffer_of c.groups) [] c.proof
