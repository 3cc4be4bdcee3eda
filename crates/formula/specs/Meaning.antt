-- What a formula in bytes means: the tree that the bytes read as, with the terms put in.
use Rattle.std.specs.Prelude.{ℕ, ◌+◌, ◌≤◌, ◌≡◌, List, length, get_or, None, Option, Some}
use Rattle.procap.specs.Facts.{spelled, fact_of}
use Rattle.procap.specs.declared.time.Time.{Time}
use Rattle.procap.specs.declared.fact.Term.{Term}
use Rattle.procap.specs.declared.fact.Fact.{Fact}
use Rattle.bl.specs.declared.FormulaTag.{FormulaTag}
use Rattle.bl.specs.declared.Sort.{Sort}
use Rattle.bl.specs.Trees.{Place, Formula}
use Rattle.procap.specs.Bytes.{number, byte}
use Rattle.bl.specs.Tags.{formula_tag}
use Rattle.bl.specs.Formulas.{most_formula_levels, argument, formula}
use Rattle.bl.specs.Kinds.{as_terms}
use Rattle.bl.specs.Walk.{same}
use Rattle.ledger.specs.declared.Ledger.{Ledger}
use Rattle.formula.specs.declared.terms.Terms.{Terms}
use Rattle.formula.specs.declared.terms.Place as code
use Rattle.formula.specs.declared.parts.FormulaAt.{FormulaAt}
use Rattle.formula.specs.declared.parts.Head.{Head}
use Rattle.formula.specs.declared.parts.Judgement.{Judgement}
use Rattle.ledger.specs.Books.{GoesOn, book, Sound, Gives}
use Rattle.formula.specs.PutIn.{terms_of, FewTerms, fill, place_of, fill_place}

-- The tag at a place, if there is one; past the end there is none.
abbrev pub tag_of : List ℕ → ℕ → Option FormulaTag
tag_of bytes at = formula_tag (get_or bytes at 0)

-- A formula that begins at another place, with the same terms put in.
abbrev pub begin : FormulaAt → ℕ → FormulaAt
begin f at = record { at = at; terms = f.terms }

-- Under d binders that no term was put in for, the formula in the bytes is F.
pub record Means (bytes : List ℕ) (d : ℕ) (f : FormulaAt) (F : Formula) : Type 0 where
  pub level : ℕ
  pub low : level ≤ most_formula_levels
  pub sorts : List Sort
  pub as_many : length sorts ≡ d + f.terms.count
  pub few : FewTerms f.terms
  pub tree : Formula
  pub end : ℕ
  pub reads : formula bytes level sorts f.at ≡ Some (tree, end)
  pub filled : fill d (terms_of f.terms) tree ≡ F

-- A judgement of the formula F on [a,b].
pub record On (bytes : List ℕ) (j : Judgement) (F : Formula) (a b : Time) : Type 0 where
  pub means : Means bytes 0 j.formula F
  pub from : j.from ≡ a
  pub to : j.to ≡ b

-- A value that ends at e was found: with the terms put in, under binders of its own, it is the place x.
abbrev pub PlaceFound : Terms → ℕ → Place → ℕ → Option (code.Place × ℕ) → Type 0
PlaceFound terms under x e r = (found : code.Place) × (r ≡ Some (found, e)) × (FewTerms terms → place_of found ≡ fill_place under (terms_of terms) x)

-- Where the reader finds something at a place, a value with the terms put in is that, and a place after it is where it ends.
abbrev pub PlaceReads : List ℕ → ℕ → Terms → ℕ → code.Place → Type 0
PlaceReads bytes at terms under place =
    (sorts : List Sort) (x : Place) (e : ℕ) → FewTerms terms → argument bytes sorts at ≡ Some (x, e)
    → place_of place ≡ fill_place under (terms_of terms) x

abbrev pub PlaceEnds : List ℕ → ℕ → ℕ → Type 0
PlaceEnds bytes at next = (sorts : List Sort) (x : Place) (e : ℕ) → argument bytes sorts at ≡ Some (x, e) → next ≡ e

-- There, too, it is found, with the terms put in, and a place after it.
abbrev pub PlaceReadsIfAny : List ℕ → ℕ → Terms → ℕ → Option (code.Place × ℕ) → Type 0
PlaceReadsIfAny bytes at terms under r =
    (sorts : List Sort) (x : Place) (e : ℕ) → argument bytes sorts at ≡ Some (x, e) → PlaceFound terms under x e r

abbrev pub PlaceEndsIfAny : List ℕ → ℕ → Option ℕ → Type 0
PlaceEndsIfAny bytes at r = (sorts : List Sort) (x : Place) (e : ℕ) → argument bytes sorts at ≡ Some (x, e) → r ≡ Some e

-- A predicate and a count are what the readers find.
abbrev pub HeadReads : List ℕ → ℕ → Option Head → Type 0
HeadReads bytes at r =
    (p n e₁ e₂ : ℕ) → number bytes 2 at ≡ Some (p, e₁) → byte bytes e₁ ≡ Some (n, e₂)
    → r ≡ Some (record { predicate = p; count = n; next = e₂ })

-- A formula of at most so many levels ends there.
abbrev pub FormulaEnds : List ℕ → ℕ → ℕ → ℕ → Type 0
FormulaEnds bytes left at r = (n : ℕ) (sorts : List Sort) (A : Formula) (e : ℕ) → n ≤ left → formula bytes n sorts at ≡ Some (A, e) → r ≡ e

-- And that it does is found.
abbrev pub FormulaEndsIfAny : List ℕ → ℕ → ℕ → Option ℕ → Type 0
FormulaEndsIfAny bytes left at r =
    (n : ℕ) (sorts : List Sort) (A : Formula) (e : ℕ) → n ≤ left → formula bytes n sorts at ≡ Some (A, e) → r ≡ Some e

-- Comparing two formulas in bytes is comparing what they mean, and where it goes on it comes to their ends.
abbrev pub Compares : List ℕ → FormulaAt → List ℕ → FormulaAt → ℕ → ℕ → Ledger → ℕ → Ledger → ℕ → ℕ → Type 0
Compares left_bytes left right_bytes right d q l levels r left_next right_next =
    (F G : Formula) (m : Means left_bytes d left F) (n : Means right_bytes d right G) → m.level ≤ levels
    → (state : List ℕ) (list : List Fact) → Sound (book l list)
    → Gives state (book l list) (same q F G) (book r list) tt × (GoesOn r → (left_next ≡ m.end) × (right_next ≡ n.end))

-- A fact read from the bytes spells these places; or there is none, since a variable is left among them.
unfoldable pub SpellsPlaces : ℕ → List Place → Option Fact → Type 0
SpellsPlaces p xs (Some f) = (ts : List Term) × (e : _) × (as_terms xs ≡ Some (ts, e)) × (spelled f ≡ (p, ts)) × (f ≡ fact_of (spelled f))
SpellsPlaces p xs None = as_terms xs ≡ None
