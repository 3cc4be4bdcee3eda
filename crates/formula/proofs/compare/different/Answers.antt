-- A misfit is what the walk comes to, and it stops.
use Rattle.formula.proofs.Comparing.{differs}
use Rattle.formula.proofs.compare.different.Goals as goal

pub returns : goal.returns
returns c = differs _ _ _ c.misfit.ensures
