-- What comparing promises of its parts: places one after another, a predicate with its places, and the formulas that follow.
use Rattle.std.specs.Prelude.{ℕ, suc, ◌≤◌, ◌<◌, ◌≡◌, List, map, length, Some}
use Rattle.procap.specs.Bytes.{number, byte, many}
use Rattle.procap.specs.declared.fact.Fact.{Fact}
use Rattle.bl.specs.declared.FormulaTag.{FormulaTag}
use Rattle.bl.specs.declared.Sort.{Sort}
use Rattle.bl.specs.Trees.{Place, Formula}
use Rattle.bl.specs.Formulas.{most_binders, argument}
use Rattle.bl.specs.Questions.{Test, ◌>>◌, need_equal}
use Rattle.bl.specs.Walk.{same_places, same}
use Rattle.ledger.specs.declared.Ledger.{Ledger}
use Rattle.formula.specs.declared.parts.FormulaAt.{FormulaAt}
use Rattle.formula.specs.declared.compare.Pair.{Pair}
use Rattle.formula.specs.declared.compare.Spot.{Spot}
use Rattle.formula.specs.declared.compare.Compared.{Compared}
use Rattle.ledger.specs.Books.{GoesOn, book, Sound, Gives}
use Rattle.formula.specs.PutIn.{terms_of, FewTerms, fill_place}
use Rattle.formula.specs.Meaning.{tag_of, begin, Means, Compares}

-- The walk w leads from the one ledger to the other; and where it goes on, it comes to the place e on the left and to e' on the right.
abbrev pub LeadsTo : Ledger → Test → Compared → ℕ → ℕ → Type 0
LeadsTo l w r e e' =
    (state : List ℕ) (list : List Fact) → Sound (book l list)
    → Gives state (book l list) w (book r.ledger list) tt
    × (GoesOn r.ledger → (r.left_next ≡ e) × (r.right_next ≡ e'))

-- Two formulas to compare, each with the terms put in, under so many binders, and the offset of the step that asks.
pub record Two : Type 0 where
  pub left : FormulaAt
  pub right : FormulaAt
  pub under : ℕ
  pub offset : ℕ

-- The two at other places.
abbrev pub move : Two → ℕ → ℕ → Two
move two x y = record { left = begin two.left x; right = begin two.right y; under = two.under; offset = two.offset }

-- The two under one binder more.
abbrev pub under_binder : Two → Two
under_binder two = record { left = two.left; right = two.right; under = suc two.under; offset = two.offset }

-- The formulas of a pair at a spot.
abbrev pub two_at : Pair → Spot → Two
two_at pair x =
    record { left = begin pair.left.formula x.left; right = begin pair.right.formula x.right; under = x.under; offset = pair.offset }

-- The formulas of a pair, wherever they are taken to stand, under so many binders.
abbrev pub two_under : Pair → ℕ → Two
two_under pair under = record { left = pair.left.formula; right = pair.right.formula; under = under; offset = pair.offset }

-- The formulas are the same, and end at a spot.
abbrev pub ended : Ledger → Spot → Compared
ended l x = record { ledger = l; left_next = x.left; right_next = x.right }

-- So many places stand from where f begins up to e; with its terms put in, under d binders, they are xs.
pub record PlacesStand (bytes : List ℕ) (d count : ℕ) (f : FormulaAt) (xs : List Place) (e : ℕ) : Type 0 where
  pub few : FewTerms f.terms
  pub sorts : List Sort
  pub written : List Place
  pub reads : many (argument bytes sorts) count f.at ≡ Some (written, e)
  pub filled : map (fill_place d (terms_of f.terms)) written ≡ xs

-- A predicate, a count, and so many places.
pub record HeadStands (bytes : List ℕ) (d : ℕ) (f : FormulaAt) (p : ℕ) (xs : List Place) (e : ℕ) : Type 0 where
  pub after_predicate : ℕ
  pub count : ℕ
  pub after_count : ℕ
  pub predicate_reads : number bytes 2 f.at ≡ Some (p, after_predicate)
  pub count_reads : byte bytes after_predicate ≡ Some (count, after_count)
  pub places : PlacesStand bytes d count (begin f after_count) xs e

module _ (left_bytes right_bytes : List ℕ) where
  -- So many places, one after another.
  abbrev pub ComparesPlaces : ℕ → Two → Ledger → Compared → Type 0
  ComparesPlaces count two l r =
      (xs ys : List Place) (e e' : ℕ)
      → PlacesStand left_bytes two.under count two.left xs e → PlacesStand right_bytes two.under count two.right ys e'
      → LeadsTo l (same_places two.offset xs ys) r e e'

  -- Predicates, counts, and then the places.
  abbrev pub ComparesHeads : Two → Ledger → Compared → Type 0
  ComparesHeads two l r =
      (p p' : ℕ) (xs ys : List Place) (e e' : ℕ)
      → HeadStands left_bytes two.under two.left p xs e → HeadStands right_bytes two.under two.right p' ys e'
      → LeadsTo l (need_equal two.offset p p' >> (need_equal two.offset (length xs) (length ys) >> same_places two.offset xs ys)) r e e'

  -- Two formulas, of at most so many levels.
  abbrev pub ComparesPair : Two → Ledger → ℕ → Compared → Type 0
  ComparesPair two l levels r =
      Compares left_bytes two.left right_bytes two.right two.under two.offset l levels r.ledger r.left_next r.right_next

  -- The same under one binder more.
  abbrev pub ComparesBody : Two → Ledger → ℕ → Compared → Type 0
  ComparesBody two l levels r = two.under < most_binders → ComparesPair (under_binder two) l levels r

  -- After a walk that came to these places, the formulas there.
  abbrev pub ComparesAfter : Compared → Two → ℕ → Compared → Type 0
  ComparesAfter before two levels r =
      (l : Ledger) (w : Test) (e e' : ℕ) (A A' : Formula)
      → (m : Means left_bytes two.under (begin two.left e) A) (n : Means right_bytes two.under (begin two.right e') A')
      → m.level ≤ levels → LeadsTo l w before e e' → LeadsTo l (w >> same two.offset A A') r m.end n.end

  -- Two formulas of one tag, whose parts have at most so many levels.
  abbrev pub ComparesTagged : FormulaTag → Two → Ledger → ℕ → Compared → Type 0
  ComparesTagged tag two l levels r =
      tag_of left_bytes two.left.at ≡ Some tag → tag_of right_bytes two.right.at ≡ Some tag → ComparesPair two l (suc levels) r

-- The same of a pair at a spot.
module _ (pair : Pair) where
  abbrev pub FormulasOf : Spot → Ledger → ℕ → Compared → Type 0
  FormulasOf x = ComparesPair pair.left.bytes.now pair.right.bytes.now (two_at pair x)

  abbrev pub PlacesOf : ℕ → Spot → Ledger → Compared → Type 0
  PlacesOf count x = ComparesPlaces pair.left.bytes.now pair.right.bytes.now count (two_at pair x)

  abbrev pub HeadsOf : Spot → Ledger → Compared → Type 0
  HeadsOf x = ComparesHeads pair.left.bytes.now pair.right.bytes.now (two_at pair x)

  abbrev pub BodiesOf : Spot → Ledger → ℕ → Compared → Type 0
  BodiesOf x = ComparesBody pair.left.bytes.now pair.right.bytes.now (two_at pair x)

  abbrev pub RestsOf : Compared → ℕ → ℕ → Compared → Type 0
  RestsOf before under = ComparesAfter pair.left.bytes.now pair.right.bytes.now before (two_under pair under)

  abbrev pub TaggedOf : FormulaTag → Spot → Ledger → ℕ → Compared → Type 0
  TaggedOf tag x = ComparesTagged pair.left.bytes.now pair.right.bytes.now tag (two_at pair x)
