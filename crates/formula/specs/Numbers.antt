-- A judgement whose times are held in numbers: the one that they stand for, and the numbers of one; and what comparing promises of a list of
-- facts in numbers.
use Rattle.std.specs.Prelude.{ℕ, ◌≤◌, ◌≡◌, List}
use Rattle.procap.specs.Numbered.{time_of, time_numbers}
use Rattle.bl.specs.Trees.{Formula}
use Rattle.bl.specs.Walk.{same}
use Rattle.ledger.specs.declared.Ledger.{Ledger}
use Rattle.ledger.specs.Books.{GoesOn}
use Rattle.ledger.specs.Numbers.{counted, book, Sound, Gives}
use Rattle.formula.specs.declared.parts.FormulaAt.{FormulaAt}
use Rattle.formula.specs.declared.parts.Judgement.{Judgement}
use Rattle.formula.specs.declared.numbers.JudgementNumbers.{JudgementNumbers}
use Rattle.formula.specs.Meaning.{Means}

-- The judgement on the times that the numbers stand for.
abbrev pub judgement_of : JudgementNumbers → Judgement
judgement_of j = record { formula = j.formula; from = time_of j.from.kind j.from.second; to = time_of j.to.kind j.to.second }

-- The same judgement with its times in numbers.
abbrev pub numbers_of_judgement : Judgement → JudgementNumbers
numbers_of_judgement j = record { formula = j.formula; from = time_numbers j.from; to = time_numbers j.to }

-- Comparing two formulas in bytes is comparing what they mean, by a list in numbers and its count, and where it goes on it comes to their ends.
abbrev pub ComparesInNumbers : List ℕ → FormulaAt → List ℕ → FormulaAt → ℕ → ℕ → Ledger → ℕ → Ledger → ℕ → ℕ → Type 0
ComparesInNumbers left_bytes left right_bytes right d q l levels r left_next right_next =
    (F G : Formula) (m : Means left_bytes d left F) (n : Means right_bytes d right G) → m.level ≤ levels
    → (state : List ℕ) (count : ℕ) (list : List ℕ) → Sound (book (counted l count) list)
    → Gives state (book (counted l count) list) (same q F G) (book (counted r count) list) tt × (GoesOn r → (left_next ≡ m.end) × (right_next ≡ n.end))
