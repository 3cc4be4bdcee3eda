-- The lines passed are read, no two alike, and their places are kept. A line that is no fact's, or one that was there before, means that there are no
-- such lines.
use native.Mathlib.Omega.{arith}
use Rattle.procap.proofs.Telling.{holds, fails}
use Rattle.text.proofs.LinesSoFar.{none_so_far, no_line, line_twice, one_so_far, all_so_far}
use Rattle.text.proofs.fact_places.lines_at.Goals as goal

pub loop-i-init : goal.loop-i-init
loop-i-init c = none_so_far _ _ _

pub returns-in_err-end : goal.returns-in_err-end
returns-in_err-end c = rw c.from_residual.ensures (no_line c.loop-i.invariant c.loop-i-test.true c.in_err-end.ensures)

pub returns-then-stood_before : goal.returns-then-stood_before
returns-then-stood_before c =
    let told = c.stood_before in
    let so_far = c.loop-i.invariant in
    let found = c.in_ok-end.ensures.0 in
    let before = holds told.result c.if-stood_before.true (told.ensures _ so_far.facts found so_far.on) in
    line_twice so_far c.loop-i-test.true _ _ found before

pub loop-i-preserved : goal.loop-i-preserved
loop-i-preserved c =
    let told = c.stood_before in
    let so_far = c.loop-i.invariant in
    let found = c.in_ok-end.ensures.0 in
    let new = fails told.result c.if-stood_before.false (told.ensures _ so_far.facts found so_far.on) in
    one_so_far so_far c.loop-i-test.true _ _ found (omega arith) new

pub returns : goal.returns
returns c = all_so_far c.loop-i.invariant c.loop-i-test.false
