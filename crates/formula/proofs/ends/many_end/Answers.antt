-- What the arguments not passed end with, all of them end with.
use Rattle.formula.proofs.Endings.{one_passed, one_missing, none_left}
use Rattle.formula.proofs.ends.many_end.Goals as goal

pub returns-in_err-next : goal.returns-in_err-next
returns-in_err-next c = rw c.from_residual.ensures (one_missing _ _ _ _ _ c.loop.invariant c.loop-test.true c.in_err-next.ensures)

pub loop-preserved : goal.loop-preserved
loop-preserved c =
    let found = c.in_ok-next.ensures in
    one_passed _ _ _ _ _ c.loop.invariant found.0 _ c.loop-test.true found.1

pub returns : goal.returns
returns c = none_left _ _ _ _ _ c.loop.invariant c.loop-test.false
