-- The fact of the line is none of those on the lines passed.
use native.Mathlib.Omega.{arith}
use Rattle.std.proofs.Common.{below_more}
use Rattle.procap.proofs.Telling.{holds, fails}
use Rattle.text.proofs.OnLines.{met, not_met}
use Rattle.text.proofs.fact_places.stood_before.Goals as goal

pub returns-then-same_line : goal.returns-then-same_line
returns-then-same_line c f fs h on =
    let told = c.same_line in
    met _ _ _ _ f fs h on c.loop-place.place-index (omega arith) λ g e r.
    holds told.result c.if-same_line.true (told.ensures f g e h r)

pub loop-place-preserved : goal.loop-place-preserved
loop-place-preserved c =
    let told = c.same_line in
    below_more _ _ c.loop-place.invariant λ f g e h r.
    fails told.result c.if-same_line.false (told.ensures f g e h r)

pub returns : goal.returns
returns c f fs h on = not_met _ _ _ _ f fs h on λ k l. c.loop-place.invariant k (omega arith)
