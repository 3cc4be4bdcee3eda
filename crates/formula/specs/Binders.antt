-- The binders around a place, kept in a row whose last is the innermost.
use Rattle.std.specs.Prelude.{ℕ, ◌≤◌, List, get_or}
use Rattle.bl.specs.declared.Sort.{Sort}
use Rattle.bl.specs.declared.Sort.TheVariants.{Names}
use Rattle.bl.specs.Formulas.{most_binders}
use Rattle.formula.specs.PutIn.{stack}

-- The sorts of the binders around a place, the innermost first.
unfoldable pub sorts_of : List Sort → ℕ → List Sort
sorts_of sorts count = stack (λ i. get_or sorts i Names) count

-- There are no more binders than may stand around a place.
abbrev pub FewBinders : ℕ → Type 0
FewBinders count = count ≤ most_binders
