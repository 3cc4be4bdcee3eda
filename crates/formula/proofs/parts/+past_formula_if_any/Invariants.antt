-- The formula ends where the law of its tag says, and each formula inside of it has one level less.
use Rattle.formula.proofs.parts.+past_formula_if_any.Given as goal

-- The levels left fall.
abbrev pub decreases-past_formula_if_any : goal.decreases-past_formula_if_any
decreases-past_formula_if_any l = l.left
