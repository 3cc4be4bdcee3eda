-- Equal numbers leave the ledger as it is; others do not fit.
use mathlib.Core.Path.{refl}
use Rattle.formula.proofs.ComparingPlaces.{numbers_agree, numbers_differ}
use Rattle.formula.proofs.compare.same_number.Goals as goal

pub returns-then-one-other : goal.returns-then-one-other
returns-then-one-other c = numbers_agree _ _ _ _ _ c.if-one-other.true refl

pub returns-else-one-other : goal.returns-else-one-other
returns-else-one-other c = numbers_differ _ _ _ _ _ c.if-one-other.false c.misfit.ensures
