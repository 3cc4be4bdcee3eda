-- Bytes that are rewritten with 0 stand in front of the buffer as they were, so the two are found to be the same.
use Prim.Native.Nat.{◌≤◌}
use mathlib.Core.Path.{sym, ◌∙◌}
use native.Mathlib.Omega.{arith}
use borrow.Author.Rules.{rules}
use lib.ListN.{length}
use lib.Seq.{length-take-le}
use Rattle.demands.proofs.FromC.{told_is_short, rewriting_is_short}
use Rattle.kept.proofs.Fronts.{stands_in_front}
use Rattle.kept.proofs.spelling.kept_demand_2_reading.Goals as goal
use Rattle.kept.proofs.spelling.kept_demand_2_reading.Goals.{After-length_in}

-- No more is told than the room that was lent has.
short : (c : After-length_in) → c.length_in.result ≤ length c.office_rewrite-rewritten.new.out
short c =
    let again = c.office_rewrite-rewritten.ensures in
    omega (arith, c.length_in.ensures, told_is_short _ _ _ _ (again.answer, again.buffer) (rewriting_is_short _ _))

pub slice_bounds-again-end : goal.slice_bounds-again-end
slice_bounds-again-end c = short (goal.at.slice_bounds-again-end c).After-length_in

pub slice_bounds-eq-end : goal.slice_bounds-eq-end
slice_bounds-eq-end c = sym (length-take-le _ _ (short (goal.at.slice_bounds-eq-end c).After-length_in))

pub returns : goal.returns
returns c =
    let again = c.office_rewrite-rewritten.ensures in
    let zero = sym c.number_in.ensures ∙ c.if-number_in-ne0.false in
    let same = stands_in_front _ _ _ (again.answer, again.buffer) zero _ c.length_in.ensures in
    rw (c.eq.ensures, same) (search rules)
