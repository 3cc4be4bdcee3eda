-- The place that the search comes to holds the name, or the name stands nowhere in a list that is in order.
use native.Mathlib.Omega.{arith}
use Rattle.strength.proofs.CountedNames.{stands_there, stands_nowhere}
use Rattle.strength.proofs.lists.place_in.Goals as goal
use Rattle.strength.proofs.lists.place_in.Goals.{else-place-standing-via-then-place-standing+else-standing-place, else-place-standing-via-else-place-standing}

pub returns-then-standing-place-clause-place : goal.returns-then-standing-place-clause-place
returns-then-standing-place-clause-place c o =
    let found = c.names_in-standing.ensures in
    stands_there _ _ _ _ found.few c.below-place.ensures.below o (found.names o) c.if-place-standing.true c.if-standing-place.true

pub returns-else-place-standing-clause-place : goal.returns-else-place-standing-clause-place
returns-else-place-standing-clause-place c o =
    let found = c.names_in-standing.ensures in
    stands_nowhere _ _ _ _ found.few c.below-place.ensures.below o (found.names o)
    (λ inside there. elim c.else-place-standing.branch [ else-place-standing-via-then-place-standing+else-standing-place w ↦ w.if-standing-place.false there | else-place-standing-via-else-place-standing w ↦ omega arith ])
