-- How what the code's readers of the text hand back stands to the readers of these pages. What is promised of reading a text does not rest on this.
use Rattle.std.specs.Prelude.{ℕ, ◌+◌, ◌<◌, Bool, ◌≡◌, List, [], ◌∷◌, map, length, drop, Err, None, Ok, Option, Result, Some}
use Rattle.procap.specs.Lists.{pad, In, Distinct}
use Rattle.procap.specs.Tells.{Tells}
use Rattle.procap.specs.Facts.{Spelled, fact_of, no_fact}
use Rattle.procap.specs.Procaps.{most_facts}
use Rattle.procap.specs.Outcome.{Outcome}
use Rattle.procap.specs.declared.answer.Answer.TheVariants.{InputMalformed}
use Rattle.procap.specs.declared.fact.Fact.{Fact}
use Rattle.procap.specs.declared.procap.Request.{Request}
use Rattle.text.specs.Numbers.{digit_zero, leading_digits}
use Rattle.text.specs.declared.line.BrokenLine.{BrokenLine}
use Rattle.text.specs.Reader.{fact_line}
use Rattle.text.specs.Overviews.{line_starts}
use Rattle.text.specs.declared.fact_places.Lines.{Lines}

-- The digits from a place on begin with this one, or there are none.
abbrev pub DigitReads : List ℕ → ℕ → Option ℕ → Type 0
DigitReads text at (Some d) =
    (d < 10) × (at < length text) × (leading_digits (drop at text) ≡ (digit_zero + d) ∷ leading_digits (drop (at + 1) text))
DigitReads text at None = leading_digits (drop at text) ≡ []

-- What a reader of counted lines comes to: a value of which so much holds, or the line that breaks the form.
abbrev pub Reads : {A B : Type 0} → Outcome (A × ℕ × ℕ) → (B → Type 0) → Result B BrokenLine → Type 0
Reads o So (Ok b) = So b
Reads o So (Err broken) = o ≡ Err (InputMalformed broken.0)

-- The request, where its lines are counted from 1, and the place after them; or the line that breaks their form.
abbrev pub RequestReads : Outcome (Request × ℕ × ℕ) → Result (Request × ℕ) BrokenLine → Type 0
RequestReads o r = Reads o (λ b. o ≡ Ok (b.0, 4, b.1)) r

-- The line of this fact stands at a place and ends at another.
abbrev pub ReadsAt : List ℕ → ℕ → Spelled → ℕ → Type 0
ReadsAt text at f e = fact_line text at ≡ Some (f, e)

-- At each of these places begins the line of one of these facts, in their order.
unfoldable pub OnLines : List ℕ → List ℕ → List Spelled → Type 0
OnLines text [] [] = Unit {0}
OnLines text [] (f ∷ fs) = ⊥
OnLines text (p ∷ ps) [] = ⊥
OnLines text (p ∷ ps) (f ∷ fs) = ((e : ℕ) × ReadsAt text p f e) × OnLines text ps fs

-- The flag tells whether the fact on the line from a place to its end is on one of the lines at these places.
abbrev pub StandsBefore : List ℕ → ℕ → ℕ → List ℕ → Bool → Type 0
StandsBefore text at end places r = (f : Spelled) (fs : List Spelled) → ReadsAt text at f end → OnLines text places fs → Tells r (In f fs)

-- The flag tells whether the line from a place to its end and the line at another place are of one fact.
abbrev pub SameLine : List ℕ → ℕ → ℕ → ℕ → Bool → Type 0
SameLine text at end other r = (f g : Spelled) (e : ℕ) → ReadsAt text at f end → ReadsAt text other g e → Tells r (f ≡ g)

-- The fact on the line at a place.
abbrev pub FactOn : List ℕ → ℕ → Fact → Type 0
FactOn text at r = (f : Spelled) (e : ℕ) → ReadsAt text at f e → r ≡ fact_of f

-- The facts on the lines at these places, with zeros past them.
abbrev pub FactsOn : List ℕ → List ℕ → List Fact → Type 0
FactsOn text places r = (fs : List Spelled) → OnLines text places fs → r ≡ pad most_facts no_fact (map fact_of fs)

-- So many lines of facts that a reader finds from a place on, no two alike, by their places with zeros past them, and the place after them;
-- or there are no such lines.
abbrev pub LinesReads : Option (List Spelled × ℕ) → ℕ → ℕ → Option (Lines × ℕ) → Type 0
LinesReads o at count (Some r) =
    (fs : List Spelled)
    × (o ≡ Some (fs, r.1))
    × Distinct fs
    × (length fs ≡ count)
    × (r.0 ≡ record { count = count; places = pad most_facts 0 (line_starts at fs) })
LinesReads o at count None = (fs : List Spelled) (e : ℕ) → o ≡ Some (fs, e) → Distinct fs → ⊥
