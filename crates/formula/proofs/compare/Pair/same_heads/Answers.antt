-- Predicates or counts that differ do not fit; else the places are compared that stand after the two heads.
use Rattle.formula.proofs.ComparingHeads.{no_left_head, no_right_head, other_predicates, other_counts, same_counts}
use Rattle.formula.proofs.compare.Pair.same_heads.Goals as goal

pub returns-in_default : goal.returns-in_default
returns-in_default c = no_left_head _ _ _ _ _ c.in_default.ensures

pub returns-in_default-head_at : goal.returns-in_default-head_at
returns-in_default-head_at c = no_right_head _ _ _ _ _ c.in_default-head_at.ensures

pub returns-then-one-other : goal.returns-then-one-other
returns-then-one-other c =
    other_predicates _ _ _ _ _ _ _ c.in-Some.ensures c.in-Some-head_at.ensures c.if-one-other.true c.different-then-one-other.ensures

pub returns-then-one-other-2 : goal.returns-then-one-other-2
returns-then-one-other-2 c =
    other_counts _ _ _ _ _ _ _ c.in-Some.ensures c.in-Some-head_at.ensures
    c.if-one-other.false
    c.if-one-other-2.true
    c.different-then-one-other-2.ensures

pub returns : goal.returns
returns c =
    same_counts _ _ _ _ _ _ _ c.in-Some.ensures c.in-Some-head_at.ensures c.if-one-other.false c.if-one-other-2.false c.same_places.ensures
