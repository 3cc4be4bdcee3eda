-- What is handed on where a line does not read: that line, by its number.
use Prim.Native.Nat.{ℕ}
use mathlib.Core.Path.{◌≡◌, ap, ◌∙◌}
use Rattle.std.specs.Prelude.{Err, IsErrAnd, None, Option, Result, Some, ok_or}
use Rattle.std.proofs.lemmas.Result.{err_from_is_err_and}
use Rattle.procap.specs.Outcome.{Outcome}
use Rattle.procap.specs.declared.answer.Answer.TheVariants.{InputMalformed}
use Rattle.text.specs.Places.{Reads}
use Rattle.text.specs.declared.line.BrokenLine.{BrokenLine}

module _ {A B : Type 0} (o : Outcome (A × ℕ × ℕ)) (So : B → Type 0) (r : Result B BrokenLine) (broken : BrokenLine) (on : IsErrAnd r (λ b. b ≡ broken)) where
  -- A line that breaks the form is handed on as it was told.
  pub broken_on : o ≡ Err (InputMalformed broken.0) → Reads o So r
  broken_on e = let told = err_from_is_err_and r on in rw (told.1, told.2) e

  -- Where nothing was read on a line, that line breaks the form.
  pub missing_on : {X : Type 0} (x : Option X) (n : ℕ) → ◌≡◌ {A = Result X BrokenLine} (Err broken) (ok_or x (record { 0 = n })) → x ≡ None
      → o ≡ Err (InputMalformed n) → Reads o So r
  missing_on x n e none refused = broken_on (refused ∙ ap (λ (k : ℕ). Err (InputMalformed k)) line)
    where
      line : n ≡ broken.0
      line = by x none e
        where
          by : {X : Type 0} (x : Option X) → x ≡ None → ◌≡◌ {A = Result X BrokenLine} (Err broken) (ok_or x (record { 0 = n })) → n ≡ broken.0
          by None none e = cc
          by (Some y) none e = cc
