-- Where a formula is read, its end was found.
use mathlib.Core.Path.{refl}
use Rattle.formula.proofs.parts.past_formula.Goals as goal

pub returns : goal.returns
returns c n sorts A e l q = rw (c.unwrap_or.ensures, c.past_formula_if_any.ensures n sorts A e l q) refl
