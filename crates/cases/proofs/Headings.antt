-- Laws of the lines of a group before its formula: the first of them that breaks the form does so of all, and else they say what each says.
use Prim.Native.Nat.{ℕ}
use mathlib.Core.Path.{◌≡◌, refl, ◌∙◌}
use Rattle.std.specs.Prelude.{Err}
use Rattle.procap.specs.Writable.{largest_name}
use Rattle.procap.specs.declared.answer.Answer.{Answer}
use Rattle.procap.specs.declared.time.Time.{Time}
use Rattle.text.specs.Words.{bytes_of}
use Rattle.text.specs.Line.{line_to}
use Rattle.text.specs.LinesInARow.{one_line}
use Rattle.cases.specs.CaseLines.{time_line}
use Rattle.cases.specs.Case.{heading}
use Rattle.cases.specs.Found.{ReadSoFar, WentOn, Told, HeadingTold}
use Rattle.cases.proofs.InARow.{lines_read, lines_break}

module _ (old : ReadSoFar) where
  pub by_breaks : (answer : Answer) → one_line (line_to old.input (bytes_of "by=") largest_name) old.line old.at ≡ Err answer
      → heading old.input old.line old.at ≡ Err answer
  unfolding heading
  by_breaks answer e = lines_break _ old.line old.at (one_line (line_to old.input (bytes_of "by=") largest_name)) answer e

  module _ {s : ReadSoFar} {by : ℕ}
      (w : WentOn (one_line (line_to old.input (bytes_of "by=") largest_name) old.line old.at) old s (Told old s) by) where
    pub from_breaks : (answer : Answer) → one_line (time_line s.input (bytes_of "from=")) s.line s.at ≡ Err answer
        → heading old.input old.line old.at ≡ Err answer
    unfolding heading
    from_breaks answer e =
        lines_read _ old.line old.at (one_line (line_to old.input (bytes_of "by=") largest_name)) w.found s.line s.at w.reads
        ∙ lines_break _ s.line s.at (one_line (time_line old.input (bytes_of "from="))) answer (rw w.same at e)

    module _ {t : ReadSoFar} {from : Time}
        (v : WentOn (one_line (time_line s.input (bytes_of "from=")) s.line s.at) s t (Told s t) from) where
      pub to_breaks : (answer : Answer) → one_line (time_line t.input (bytes_of "to=")) t.line t.at ≡ Err answer
          → heading old.input old.line old.at ≡ Err answer
      unfolding heading
      to_breaks answer e =
          lines_read _ old.line old.at (one_line (line_to old.input (bytes_of "by=") largest_name)) w.found s.line s.at w.reads
          ∙ lines_read _ s.line s.at (one_line (time_line old.input (bytes_of "from="))) v.found t.line t.at (rw w.same at v.reads)
          ∙ lines_break _ t.line t.at (one_line (time_line old.input (bytes_of "to="))) answer (rw (v.same ∙ w.same) at e)

      pub heading_read : {new : ReadSoFar} {to : Time} → WentOn (one_line (time_line t.input (bytes_of "to=")) t.line t.at) t new (Told t new) to
          → WentOn (heading old.input old.line old.at) old new (HeadingTold old new) (record { by = by; from = from; to = to })
      unfolding heading
      heading_read {new} {to} u = record {
        found = (w.found, v.found, u.found);
        reads =
            lines_read _ old.line old.at (one_line (line_to old.input (bytes_of "by=") largest_name)) w.found s.line s.at w.reads
            ∙ lines_read _ s.line s.at (one_line (time_line old.input (bytes_of "from="))) v.found t.line t.at (rw w.same at v.reads)
            ∙ lines_read _ t.line t.at (one_line (time_line old.input (bytes_of "to="))) u.found new.line new.at (rw (v.same ∙ w.same) at u.reads);
        same = u.same ∙ v.same ∙ w.same;
        is_of = (rw (w.is_of.0, v.is_of.0, u.is_of.0) refl, u.is_of.1 ∙ v.is_of.1 ∙ w.is_of.1);
      }
