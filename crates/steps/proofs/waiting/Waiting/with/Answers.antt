-- The first of as many.
use mathlib.Core.Path.{refl}
use Rattle.steps.specs.Waiting.{newest_first}
use Rattle.steps.proofs.waiting.Waiting.with.Goals as goal

pub returns : goal.returns
unfolding newest_first
returns c = refl
