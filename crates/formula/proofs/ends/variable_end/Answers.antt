-- An index names a binder, if one stands so far outward, and is of its sort.
use mathlib.Core.Path.{sym}
use Rattle.formula.proofs.Endings.{no_index, no_binder, a_variable}
use Rattle.formula.proofs.ends.variable_end.Goals as goal

pub returns-in_err-index : goal.returns-in_err-index
returns-in_err-index c = rw c.from_residual.ensures (no_index _ _ _ (sym c.in_err-index.ensures.reads))

pub returns-in_err-sort : goal.returns-in_err-sort
returns-in_err-sort c = rw c.from_residual-in_err-sort.ensures (no_binder _ _ _ _ _ (sym c.in_ok-index.ensures.reads) (sym c.in_err-sort.ensures))

pub returns : goal.returns
returns c = a_variable _ _ _ _ _ (sym c.in_ok-index.ensures.reads) _ (sym c.in_ok-sort.ensures)
