-- Laws of reading a whole case: which line breaks it where one of its parts does not stand, and what it is where all of them do.
use Prim.Native.Nat.{ℕ}
use mathlib.Core.Path.{◌≡◌, refl, ap, ◌∙◌}
use mathlib.Core.List.{List, ◌++◌}
use Rattle.std.specs.Prelude.{Err, None}
use lib.ListN.{length}
use borrow.Author.Tests.{eq-eqb, ne_eqb}
use Rattle.procap.specs.Bytes.{ensure}
use Rattle.procap.specs.declared.answer.Answer.{Answer}
use Rattle.procap.specs.declared.procap.Request.{Request}
use Rattle.bl.specs.Certificates.{most_certificates}
use Rattle.bl.specs.declared.Certificate.{Certificate}
use Rattle.text.specs.Words.{bytes_of}
use Rattle.text.specs.Line.{line_to}
use Rattle.text.specs.LinesInARow.{one_line}
use Rattle.text.specs.RequestLines.{request_lines}
use Rattle.cases.specs.CaseLines.{hex_line, nothing_more}
use Rattle.cases.specs.Case.{groups, case_with, case_lines}
use Rattle.cases.specs.Found.{ReadSoFar, WentOn, Told, GroupsPut, CaseFound}
use Rattle.cases.proofs.InARow.{line_reads, lines_read, lines_break}

-- ── Nothing more ──

-- Something stands at a place before the end.
pub more_left : (bytes : List ℕ) (at : ℕ) → (at ≡ length bytes → ⊥) → nothing_more bytes at ≡ None
unfolding nothing_more ensure
more_left bytes at n = rw (ne_eqb at (length bytes) n) refl

-- ── From the groups on ──

module _ (r : Request) (count : ℕ) (old : ReadSoFar) where
  -- Where a line breaks the groups, it breaks the case.
  pub groups_broken : (answer : Answer) → groups old.input count old.line old.at ≡ Err answer
      → case_with old.input r count old.line old.at ≡ Err answer
  unfolding case_with
  groups_broken answer e = lines_break _ old.line old.at (groups old.input count) answer e

  module _ {s : ReadSoFar} {records : List Certificate}
      (w : WentOn (groups old.input count old.line old.at) old s (GroupsPut s) records) where
    -- Without the proof's line the case is broken there.
    pub no_proof : (answer : Answer) → one_line (hex_line s.input (bytes_of "proof=")) s.line s.at ≡ Err answer
        → case_with old.input r count old.line old.at ≡ Err answer
    unfolding case_with
    no_proof answer e =
        lines_read _ old.line old.at (groups old.input count) w.found s.line s.at w.reads
        ∙ lines_break _ s.line s.at (one_line (hex_line old.input (bytes_of "proof="))) answer (rw w.same at e)

    module _ {t : ReadSoFar}
        (v : WentOn (one_line (hex_line s.input (bytes_of "proof=")) s.line s.at) s t (λ bytes (_ : Unit {0}). t.bytes ≡ s.bytes ++ bytes) tt) where
      -- Where something stands after the proof's line, that line breaks the case.
      pub something_more : (answer : Answer) → one_line (nothing_more t.input) t.line t.at ≡ Err answer
          → case_with old.input r count old.line old.at ≡ Err answer
      unfolding case_with
      something_more answer e =
          lines_read _ old.line old.at (groups old.input count) w.found s.line s.at w.reads
          ∙ lines_read _ s.line s.at (one_line (hex_line old.input (bytes_of "proof="))) v.found t.line t.at (rw w.same at v.reads)
          ∙ lines_break _ t.line t.at (one_line (nothing_more old.input)) answer (rw (v.same ∙ w.same) at e)

      -- Where nothing does, the case is read.
      pub case_here : (split : ℕ) → split ≡ length s.bytes → t.at ≡ length t.input
          → CaseFound (case_with old.input r count old.line old.at)
          (record { request = r; certificates = records; split = split })
          t.bytes
      unfolding case_with nothing_more ensure
      case_here split e l = record {
        found = record { request = r; groups = w.found; proof = v.found };
        line = _;
        next = t.at;
        reads =
            lines_read _ old.line old.at (groups old.input count) w.found s.line s.at w.reads
            ∙ lines_read _ s.line s.at (one_line (hex_line old.input (bytes_of "proof="))) v.found t.line t.at (rw w.same at v.reads)
            ∙ line_reads _ t.line t.at (nothing_more old.input) tt t.at (rw (eq-eqb t.at (length old.input) (rw (v.same ∙ w.same) at l)) refl);
        its_request = refl;
        its_records = w.is_of.0;
        its_split = e ∙ ap length w.is_of.1;
        its_bytes = v.is_of ∙ ap (λ bs. bs ++ v.found) w.is_of.1;
      }

-- ── From the request on ──

module _ (old : ReadSoFar) where
  -- Where a line breaks the request, it breaks the case.
  pub request_broken : (answer : Answer) → request_lines old.input old.line old.at ≡ Err answer
      → case_lines old.input old.line old.at ≡ Err answer
  unfolding case_lines
  request_broken answer e = lines_break _ old.line old.at (request_lines old.input) answer e

  module _ {s : ReadSoFar} {r : Request} (w : WentOn (request_lines old.input old.line old.at) old s (Told old s) r) where
    -- Without the count's line the case is broken there.
    pub no_certs : (answer : Answer) → one_line (line_to s.input (bytes_of "certs=") most_certificates) s.line s.at ≡ Err answer
        → case_lines old.input old.line old.at ≡ Err answer
    unfolding case_lines
    no_certs answer e =
        lines_read _ old.line old.at (request_lines old.input) w.found s.line s.at w.reads
        ∙ lines_break _ s.line s.at (one_line (line_to old.input (bytes_of "certs=") most_certificates)) answer (rw w.same at e)

    -- With it the case is what the rest says.
    pub case_says : {t : ReadSoFar} {count : ℕ}
        → WentOn (one_line (line_to s.input (bytes_of "certs=") most_certificates) s.line s.at) s t (Told s t) count
        → case_lines old.input old.line old.at ≡ case_with t.input r count t.line t.at
    unfolding case_lines
    case_says {t} {count} v =
        lines_read _ old.line old.at (request_lines old.input) w.found s.line s.at w.reads
        ∙ lines_read _ s.line s.at (one_line (line_to old.input (bytes_of "certs=") most_certificates)) v.found t.line t.at (rw w.same at v.reads)
        ∙ rw (v.same ∙ w.same, w.is_of.0, v.is_of.0) refl
