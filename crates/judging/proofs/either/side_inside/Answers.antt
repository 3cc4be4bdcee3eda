-- The ledger of the sides, and the side as the row that `side_on` makes of it.
use mathlib.Core.Path.{refl}
use Rattle.judging.proofs.either.side_inside.Goals as goal

pub returns : goal.returns
returns c = rw c.side_on.ensures refl
