-- The three lines of a request: which of them breaks the form, and what they say together; that they are read from just the bytes that spell a
-- request of three names, and that those bytes read as it.
use Prim.Native.Nat.{ℕ, suc}
use mathlib.Core.Path.{◌≡◌, sym, ◌∙◌}
use mathlib.Core.List.{List, ◌++◌}
use Rattle.std.specs.Prelude.{Err, None, Ok, Option, Result, Some}
use Rattle.std.specs.Result.{result_ok}
use native.Mathlib.Omega.{arith}
use Rattle.procap.specs.Outcome.{Outcome, go_on}
use Rattle.procap.specs.Writable.{largest_name, RequestInForm}
use Rattle.procap.specs.declared.answer.Answer.TheVariants.{InputMalformed}
use Rattle.procap.specs.declared.procap.Request.{Request}
use Rattle.procap.proofs.Readers.{unread, read, so_read}
use Rattle.text.specs.Words.{bytes_of}
use Rattle.text.specs.Text.{line}
use Rattle.text.specs.Line.{line_to}
use Rattle.text.specs.LinesInARow.{at_line, said}
use Rattle.text.specs.RequestLines.{request_lines}
use Rattle.text.specs.Places.{RequestReads}
use Rattle.text.specs.declared.line.BrokenLine.{BrokenLine}
use Rattle.text.proofs.Readers.{Takes, joined, parted, TextRead}
use Rattle.text.proofs.Spellings.{line_read, line_found}

-- ── Line by line ──

module _ (bytes : List ℕ) (at : ℕ) where
  -- The first line that does not read breaks the form.
  pub no_who : line_to bytes (bytes_of "who=") largest_name at ≡ None → request_lines bytes 1 at ≡ Err (InputMalformed 1)
  unfolding request_lines at_line go_on
  no_who e = rw e

  module _ (who after_who : ℕ) (e : line_to bytes (bytes_of "who=") largest_name at ≡ Some (who, after_who)) where
    pub no_what : line_to bytes (bytes_of "what=") largest_name after_who ≡ None → request_lines bytes 1 at ≡ Err (InputMalformed 2)
    unfolding request_lines at_line go_on
    no_what f = rw (e, f)

    module _ (what after_what : ℕ) (f : line_to bytes (bytes_of "what=") largest_name after_who ≡ Some (what, after_what)) where
      pub no_right : line_to bytes (bytes_of "right=") largest_name after_what ≡ None → request_lines bytes 1 at ≡ Err (InputMalformed 3)
      unfolding request_lines at_line go_on
      no_right g = rw (e, f, g)

      -- With all three it is the request of their numbers.
      pub request_here : (right next : ℕ) → line_to bytes (bytes_of "right=") largest_name after_what ≡ Some (right, next)
          → request_lines bytes 1 at ≡ Ok (record { who = who; what = what; right = right }, 4, next)
      unfolding request_lines at_line go_on
      request_here right next g = rw (e, f, g)

-- ── From bytes to a request, and back ──

-- The lines of the request.
abbrev pub request_text : Request → List ℕ
request_text r = line (bytes_of "who=") r.who ++ line (bytes_of "what=") r.what ++ line (bytes_of "right=") r.right

module _ {bytes : List ℕ} where
  -- Go on from a line that was read.
  then_line : {A B : Type 0} {s : A → List ℕ} {P : A → Type 0} {t : B → List ℕ} {Q : B → Type 0} {at from : ℕ} {o : Option (A × ℕ)}
      (f : A × ℕ × ℕ → Outcome (B × ℕ × ℕ)) (n : ℕ) → TextRead bytes at s P o
      → ((a : A) (after : ℕ) → Takes bytes at (s a) after → P a → TextRead bytes from t Q (said (f (a, suc n, after))))
      → TextRead bytes from t Q (said (go_on (at_line n o) f))
  unfolding said at_line go_on
  then_line f n unread k = unread
  then_line f n (read {a = a} {e = after} h) k = k a after h.0 h.1

  -- A request is read from just its lines.
  pub request_read : (n at : ℕ) → TextRead bytes at request_text RequestInForm (said (request_lines bytes n at))
  unfolding request_lines said
  request_read n at =
      then_line _ n (line_read (bytes_of "who=") largest_name at (omega arith)) λ who m₁ t₁ h₁.
      then_line _ (suc n) (line_read (bytes_of "what=") largest_name m₁ (omega arith)) λ what m₂ t₂ h₂.
      then_line _ (suc (suc n)) (line_read (bytes_of "right=") largest_name m₂ (omega arith)) λ right m₃ t₃ h₃.
      read (joined (joined t₁ t₂) t₃, record { who_in_range = h₁; what_in_range = h₂; right_in_range = h₃ })

  -- A request whose lines stand there is found.
  pub request_found : (r : Request) (n : ℕ) {at after : ℕ} → RequestInForm r → Takes bytes at (request_text r) after
      → request_lines bytes n at ≡ Ok (r, suc (suc (suc n)), after)
  unfolding request_lines at_line go_on
  request_found r n names h =
      parted (line (bytes_of "who=") r.who ++ line (bytes_of "what=") r.what) (line (bytes_of "right=") r.right) h λ m₂ t₁₂ t₃.
      parted (line (bytes_of "who=") r.who) (line (bytes_of "what=") r.what) t₁₂ λ m₁ t₁ t₂.
      let who = line_found (bytes_of "who=") largest_name r.who (omega arith) names.who_in_range t₁ in
      let what = line_found (bytes_of "what=") largest_name r.what (omega arith) names.what_in_range t₂ in
      let right = line_found (bytes_of "right=") largest_name r.right (omega arith) names.right_in_range t₃ in
      rw (who, what, right)

-- What lines that were read say.
pub said_granted : {A : Type 0} (o : Outcome (A × ℕ × ℕ)) (a : A) (n next : ℕ) → o ≡ Ok (a, n, next) → said o ≡ Some (a, next)
unfolding said
said_granted o a n next e = rw e

-- Lines of which one breaks say nothing.
pub said_refused : {A : Type 0} (o : Outcome (A × ℕ × ℕ)) (n : ℕ) → o ≡ Err (InputMalformed n) → said o ≡ None
unfolding said
said_refused o n e = rw e

-- What is said by what is handed back, where nobody asks which line breaks: the request and the place after it, or none.
pub said_none : (o : Outcome (Request × ℕ × ℕ)) (r : Result (Request × ℕ) BrokenLine) → RequestReads o r
    → ◌≡◌ {A = Option (Request × ℕ)} None (result_ok r) → said o ≡ None
said_none o (Ok b) h e = cc
said_none o (Err broken) h e = said_refused o broken.0 h

pub said_some : (o : Outcome (Request × ℕ × ℕ)) (r : Result (Request × ℕ) BrokenLine) → RequestReads o r
    → (q : Request) (next : ℕ) → ◌≡◌ {A = Option (Request × ℕ)} (Some (q, next)) (result_ok r) → said o ≡ Some (q, next)
said_some o (Ok b) h q next e = said_granted o b.0 4 b.1 h ∙ sym e
said_some o (Err broken) h q next e = cc

-- A request that was read is one of three names.
pub request_in_form : (bytes : List ℕ) (n at : ℕ) (r : Request) (m next : ℕ) → request_lines bytes n at ≡ Ok (r, m, next) → RequestInForm r
request_in_form bytes n at r m next e = (so_read _ (said_granted _ r m next e) (request_read n at)).1
