-- An argument of the sort wanted is a place of that sort; of the other sort it is none.
use mathlib.Core.Path.{◌≡◌}
use borrow.Author.Rules.{rules}
use Rattle.formula.proofs.Endings.{no_place, place_of_sort, place_of_other}
use Rattle.formula.proofs.ends.place_end.Goals as goal

pub returns-in_err-sort : goal.returns-in_err-sort
returns-in_err-sort c = rw c.from_residual.ensures (no_place _ _ _ _ c.in_err-sort.ensures)

pub returns-then-eq : goal.returns-then-eq
returns-then-eq c =
    let same : c.in_ok-sort.sort ≡ c.args.wanted = search rules in
    rw (← same) (place_of_sort _ _ _ _ _ c.in_ok-sort.ensures)

pub returns-else-eq : goal.returns-else-eq
returns-else-eq c =
    let differ : c.in_ok-sort.sort ≡ c.args.wanted → ⊥ = search rules in
    place_of_other _ _ _ _ _ _ differ c.in_ok-sort.ensures
