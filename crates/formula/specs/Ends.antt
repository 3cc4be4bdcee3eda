-- Where what a reader finds ends, as the code hands it back.
use Rattle.std.specs.Prelude.{ℕ, ◌≡◌, List, None, Option, Some}
use Rattle.procap.specs.Bytes.{Reader, ◌>>=◌, give}
use Rattle.bl.specs.declared.Sort.{Sort}
use Rattle.bl.specs.declared.Sort.TheVariants.{Times}
use Rattle.bl.specs.Trees.{Place, Formula}
use Rattle.bl.specs.Formulas.{variable_of, place_of, place}

-- What a reader finds ends there, or it finds nothing.
abbrev pub Ends : {A : Type 0} → Option (A × ℕ) → Option ℕ → Type 0
Ends {A} o (Some e) = (a : A) × (o ≡ Some (a, e))
Ends o None = o ≡ None

-- A place is of this sort: it stands where one of this sort is wanted, and only there.
abbrev pub OfSort : List Sort → Sort → Place → Type 0
OfSort sorts s x = (wanted : Sort) → place_of wanted sorts x ≡ variable_of wanted (Some s)

-- What a reader of places finds is of this sort and ends there, or it finds nothing.
abbrev pub PlaceEnds : List Sort → Option (Place × ℕ) → Option (Sort × ℕ) → Type 0
PlaceEnds sorts o (Some (s, e)) = (x : Place) × (o ≡ Some (x, e)) × OfSort sorts s x
PlaceEnds sorts o None = o ≡ None

-- Two times.
unfoldable pub two_times : List ℕ → List Sort → Reader (Place × Place)
two_times part sorts = do
  t1 ← place part Times sorts
  t2 ← place part Times sorts
  give (t1, t2)

-- Two formulas over readers of the level below, and what is made of them.
abbrev pub both_sides : (List Sort → Reader Formula) → List Sort → (Formula → Formula → Formula) → Reader Formula
both_sides below sorts make = do
  A ← below sorts
  B ← below sorts
  give (make A B)
