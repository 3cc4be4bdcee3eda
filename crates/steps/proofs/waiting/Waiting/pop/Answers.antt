-- The newest is the one below the count; where the count is 0, nothing waits.
use native.Mathlib.Omega.{arith}
use Rattle.steps.proofs.Stacked.{none_there, newest}
use Rattle.steps.proofs.waiting.Waiting.pop.Goals as goal

pub returns-in_err-self-inside : goal.returns-in_err-self-inside
returns-in_err-self-inside c = rw (c.from_residual.ensures, ← c.self.view_is) (none_there _ _ c.in_err-self-inside.ensures)

pub returns : goal.returns
returns c =
    rw (← c.self.view_is)
    (newest c.self.inside.things c.self.inside.count _ _ (omega (arith, c.in_ok-self-inside.ensures, c.self.invariant)) c.in_ok-self-inside.ensures.0 c.in_ok-self-inside.ensures.1)
