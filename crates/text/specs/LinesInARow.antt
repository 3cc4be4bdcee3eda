-- [Numbers 14] Lines one after another, counted: a reader of lines goes from a line's number and the place where it begins to a
-- value and the number and the place of the line after it, or to the line that breaks the form.
use Rattle.std.specs.Prelude.{ℕ, suc, Err, None, Ok, Option, Some}
use Rattle.procap.specs.Outcome.{Outcome, go_on}
use Rattle.procap.specs.Bytes.{Reader}
use Rattle.procap.specs.declared.answer.Answer.TheVariants.{InputMalformed}

infixl 10 ◌>>=◌
abbrev pub Lines : Type 0 → Type 0
Lines A = ℕ → ℕ → Outcome (A × ℕ × ℕ)

-- Some lines, and then others.
abbrev pub ◌>>=◌ : {A B : Type 0} → Lines A → (A → Lines B) → Lines B
◌>>=◌ r f = λ line at. go_on (r line at) λ x. f x.0 x.1 x.2

-- A value that takes no lines.
abbrev pub give : {A : Type 0} → A → Lines A
give a = λ line at. Ok (a, line, at)

-- [Numbers 14; D55] The line with this number: what was read there and the next line, or 14 with its number.
unfoldable pub at_line : {A : Type 0} → ℕ → Option (A × ℕ) → Outcome (A × ℕ × ℕ)
at_line line None = Err (InputMalformed line)
at_line line (Some r) = Ok (r.0, suc line, r.1)

-- [D56] One line. A line that is missing breaks the form too: nothing can be read there.
abbrev pub one_line : {A : Type 0} → Reader A → Lines A
one_line r = λ line at. at_line line (r at)

-- What lines say to a reader that does not ask which of them breaks: the value and the place after it, or none.
unfoldable pub said : {A : Type 0} → Outcome (A × ℕ × ℕ) → Option (A × ℕ)
said (Ok x) = Some (x.0, x.2)
said (Err answer) = None

-- Lines read so: where their count begins does not matter.
abbrev pub uncounted : {A : Type 0} → Lines A → Reader A
uncounted r = λ at. said (r 1 at)
