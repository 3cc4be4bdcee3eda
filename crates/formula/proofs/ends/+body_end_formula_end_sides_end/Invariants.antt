-- The levels left fall at each formula inside another: a formula is as its tag says, and its two sides and the body of a binder are formulas
-- one level lower.
use Prim.Native.Nat.{◌+◌, ◌*◌}
use Rattle.formula.proofs.ends.+body_end_formula_end_sides_end.Given as goal

-- Twice the levels left, and one more where a formula of as many levels is called.
abbrev pub decreases-body_end : goal.decreases-body_end
decreases-body_end l = 2 * l.left + 1

abbrev pub decreases-formula_end : goal.decreases-formula_end
decreases-formula_end l = 2 * l.left

abbrev pub decreases-sides_end : goal.decreases-sides_end
decreases-sides_end l = 2 * l.left + 1
