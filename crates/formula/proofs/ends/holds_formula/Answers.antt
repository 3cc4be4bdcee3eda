-- The formula at the start fills the part when it ends where the part does.
use Rattle.formula.proofs.Endings.{held_to_the_end}
use Rattle.formula.proofs.ends.holds_formula.Goals as goal

pub returns : goal.returns
returns c = rw c.eq.ensures (held_to_the_end _ _ (rw c.none.ensures at c.formula_end.ensures))
