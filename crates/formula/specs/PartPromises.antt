-- What the readers of parts and the comparison promise, over the bytes that are lent to them.
use Rattle.std.specs.Prelude.{ℕ, ◌+◌, ◌<◌, ◌≡◌, List, map, length, Option, Some}
use Rattle.procap.specs.Lent.{Lent}
use Rattle.procap.specs.Bytes.{byte, many, term_by, predicate_and}
use Rattle.procap.specs.declared.time.Time.TheVariants.{Ctime}
use Rattle.procap.specs.declared.fact.Term.{Term}
use Rattle.procap.specs.declared.tag.TermTag.{TermTag}
use Rattle.procap.specs.declared.fact.Fact.{Fact}
use Rattle.bl.specs.declared.Sort.{Sort}
use Rattle.bl.specs.Trees.{Place, Formula, fact, bound}
use Rattle.bl.specs.Formulas.{argument, for_all, formula}
use Rattle.ledger.specs.declared.Ledger.{Ledger}
use Rattle.formula.specs.declared.terms.Terms.{Terms}
use Rattle.formula.specs.declared.parts.FormulaAt.{FormulaAt}
use Rattle.formula.specs.declared.parts.Judgement.{Judgement}
use Rattle.formula.specs.declared.terms.Place as code
use Rattle.formula.specs.declared.terms.Place.TheVariants.{Fixed}
use Rattle.formula.specs.declared.parts.Head.{Head}
use Rattle.formula.specs.declared.compare.LentFormula.{LentFormula}
use Rattle.formula.specs.declared.compare.Pair.{Pair}
use Rattle.formula.specs.declared.compare.Spot.{Spot}
use Rattle.formula.specs.declared.compare.Compared.{Compared}
use Rattle.formula.specs.Ends.{Ends, both_sides}
use Rattle.formula.specs.PutIn.{no_terms, terms_of, FewTerms, fill_place}
use Rattle.formula.specs.Meaning.{Means, PlaceFound, SpellsPlaces, Compares}

-- The formula at the front of its bytes with no terms put in, on [ctime,ctime].
abbrev pub front_on_ctime : Judgement
front_on_ctime = record { formula = record { at = 0; terms = no_terms }; from = Ctime; to = Ctime }

-- The term that a tag announces, and the place after it, are what the reader finds.
abbrev pub FixedReads : Lent → TermTag → ℕ → Option (code.Place × ℕ) → Type 0
FixedReads bytes tag at r = (t : Term) (e : ℕ) → term_by bytes.entry.now tag at ≡ Some (t, e) → r ≡ Some (Fixed t, e)

-- A variable is what is put in for it.
abbrev pub VariableReads : Lent → ℕ → Terms → ℕ → Option (code.Place × ℕ) → Type 0
VariableReads bytes at terms under r = (i e : ℕ) → byte bytes.entry.now at ≡ Some (i, e) → PlaceFound terms under (bound i) e r

-- The fact that a formula is, and the fact of a predicate with the places behind it.
abbrev pub FactSpelled : Lent → FormulaAt → Option Fact → Type 0
FactSpelled bytes f r = (p : ℕ) (xs : List Place) → Means bytes.entry.now 0 f (fact p xs) → SpellsPlaces p xs r

abbrev pub HeadSpelled : Lent → Head → Terms → Option Fact → Type 0
HeadSpelled bytes head terms r =
    (sorts : List Sort) (xs : List Place) (e : ℕ) → FewTerms terms → many (argument bytes.entry.now sorts) head.count head.next ≡ Some (xs, e)
    → SpellsPlaces head.predicate (map (fill_place 0 (terms_of terms)) xs) r

-- So many places end there, and a predicate with its places does.
abbrev pub PlacesEnd : Lent → ℕ → ℕ → Option ℕ → Type 0
PlacesEnd bytes at count r = (sorts : List Sort) (xs : List Place) (e : ℕ) → many (argument bytes.entry.now sorts) count at ≡ Some (xs, e) → r ≡ Some e

abbrev pub HeadEnds : Lent → ℕ → Option ℕ → Type 0
HeadEnds bytes at r =
    (sorts : List Sort) (p : ℕ) (xs : List Place) (e : ℕ) → predicate_and bytes.entry.now (argument bytes.entry.now sorts) at ≡ Some ((p, xs), e) → r ≡ Some e

-- Comparing two formulas.
abbrev pub ComparesOver : LentFormula → LentFormula → ℕ → ℕ → Ledger → ℕ → Compared → Type 0
ComparesOver left right d q l levels r =
    Compares left.bytes.now left.formula right.bytes.now right.formula d q l levels r.ledger r.left_next r.right_next

-- The spot after two tags.
abbrev pub PastTags : Pair → Spot → Spot → Type 0
PastTags pair x r =
    x.left < length pair.left.bytes.now → x.right < length pair.right.bytes.now
    → r ≡ record { left = x.left + 1; right = x.right + 1; under = x.under }

-- Where the formula under one binder more ends.
abbrev pub BodyEnds : Lent → List Sort → Sort → ℕ → ℕ → Option ℕ → Type 0
BodyEnds part sorts s at left r = Ends (for_all part.entry.now (formula part.entry.now left) sorts s at) r

-- Where the two sides of a formula end, whatever is made of them.
abbrev pub SidesEnd : Lent → List Sort → ℕ → ℕ → Option ℕ → Type 0
SidesEnd part sorts at left r =
    (make : Formula → Formula → Formula) → Ends (both_sides (formula part.entry.now left) sorts make at) r
