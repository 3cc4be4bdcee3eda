-- With its tag the goal is top, and with any other it is not.
use Rattle.procap.proofs.Telling.{holds, fails}
use Rattle.formula.proofs.Shapes.{top_shape, not_top}
use Rattle.judging.proofs.Coming.{passes, stops}
use Rattle.judging.proofs.WalkParts.{top_there, no_top}
use Rattle.judging.proofs.judge.top.Goals as goal

pub returns-then-is_a : goal.returns-then-is_a
returns-then-is_a c = λ state list G s m. passes s (top_there _ (top_shape _ 0 _ m (holds c.is_a.result c.if-is_a.true c.is_a.ensures)).is)

pub returns-else-is_a : goal.returns-else-is_a
returns-else-is_a c = λ state list G s m. stops s (no_top _ (not_top _ 0 _ m (fails c.is_a.result c.if-is_a.false c.is_a.ensures))) c.misfit.ensures
