-- Two formulas are compared by their tags, and then part by part.
-- At each part the levels left fall by one; a rank beside them falls from each function to the one that it calls.
use Prim.Native.Nat.{◌+◌, ◌*◌}
use Rattle.formula.proofs.compare.Pair.+same_after_same_body_same_formulas_same_tagged.Given as goal

abbrev pub decreases-same_after : goal.decreases-same_after
decreases-same_after l = 3 * l.levels + 1

abbrev pub decreases-same_body : goal.decreases-same_body
decreases-same_body l = 3 * l.levels + 1

abbrev pub decreases-same_formulas : goal.decreases-same_formulas
decreases-same_formulas l = 3 * l.levels

abbrev pub decreases-same_tagged : goal.decreases-same_tagged
decreases-same_tagged l = 3 * l.levels + 2
