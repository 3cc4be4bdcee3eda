-- What is written of a value with 0 reads back, so it is rewritten with 0, and then stands in front of the buffer as it was.
use Prim.Native.Nat.{◌≤◌}
use mathlib.Core.Path.{sym, ◌∙◌}
use native.Mathlib.Omega.{arith}
use borrow.Author.Rules.{rules}
use lib.ListN.{length}
use lib.Seq.{length-take-le}
use Rattle.demands.proofs.FromC.{told_is_short, rewriting_is_short, value_writing_is_short}
use Rattle.demands.proofs.InNumbers.{what_is_written_is_rewritten}
use Rattle.kept.proofs.Fronts.{blank, room, stands_in_front}
use Rattle.kept.proofs.spelling.kept_demand_2_writing.Goals as goal
use Rattle.kept.proofs.spelling.kept_demand_2_writing.Goals.{After-length_in, After-length_in-length}

-- No more is told than the room that was lent has.
short : (c : After-length_in-length) → c.length_in-length.result ≤ length c.office_write-written.new.out
short c =
    let written = c.office_write-written.ensures in
    omega (arith, c.length_in-length.ensures, told_is_short _ _ _ _ (written.answer, written.buffer) (value_writing_is_short _ _))

pub slice_bounds-text-end : goal.slice_bounds-text-end
slice_bounds-text-end c = short (goal.at.slice_bounds-text-end c).After-length_in-length

pub slice_bounds-office_rewrite-end : goal.slice_bounds-office_rewrite-end
slice_bounds-office_rewrite-end c = sym (length-take-le _ _ (short (goal.at.slice_bounds-office_rewrite-end c).After-length_in-length))

-- What was written with 0 is rewritten with 0.
pub returns-then-number_in-ne0-2 : goal.returns-then-number_in-ne0-2
returns-then-number_in-ne0-2 c =
    let written = c.office_write-written.ensures in
    let again = rw c.length_in-length.ensures at c.office_rewrite-rewritten.ensures in
    let zero = sym c.number_in.ensures ∙ c.if-number_in-ne0.false in
    let fits = told_is_short _ _ _ _ (written.answer, written.buffer) (value_writing_is_short _ _) in
    absurd
    (c.if-number_in-ne0-2.true
    (c.number_in-2.ensures
    ∙ what_is_written_is_rewritten _ blank _ _ (written.answer, written.buffer) zero blank (omega (arith, room)) _ _ (again.answer, again.buffer)))

pub slice_bounds-text-end-2 : goal.slice_bounds-text-end-2
slice_bounds-text-end-2 c = short (goal.at.slice_bounds-text-end-2 c).After-length_in-length

-- Nor than the room that was lent for the second text.
again_short : (c : After-length_in) → c.length_in.result ≤ length c.office_rewrite-rewritten.new.out
again_short c =
    let again = c.office_rewrite-rewritten.ensures in
    omega (arith, c.length_in.ensures, told_is_short _ _ _ _ (again.answer, again.buffer) (rewriting_is_short _ _))

pub slice_bounds-again-end : goal.slice_bounds-again-end
slice_bounds-again-end c = again_short (goal.at.slice_bounds-again-end c).After-length_in

pub slice_bounds-eq-end : goal.slice_bounds-eq-end
slice_bounds-eq-end c = sym (length-take-le _ _ (again_short (goal.at.slice_bounds-eq-end c).After-length_in))

pub slice_bounds-eq-end-2 : goal.slice_bounds-eq-end-2
slice_bounds-eq-end-2 c = sym (length-take-le _ _ (short (goal.at.slice_bounds-eq-end-2 c).After-length_in-length))

pub returns : goal.returns
returns c =
    let again = c.office_rewrite-rewritten.ensures in
    let zero = sym c.number_in-2.ensures ∙ c.if-number_in-ne0-2.false in
    let same = stands_in_front _ _ _ (again.answer, again.buffer) zero _ c.length_in.ensures in
    rw (c.eq.ensures, same) (search rules)
