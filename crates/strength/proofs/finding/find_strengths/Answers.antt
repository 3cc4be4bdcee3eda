-- Where nobody is marked yet the strengths are found, and zeros are as many numbers as these take.
use mathlib.Core.Path.{ap, ◌∙◌}
use Prim.Native.Nat.{ℕ}
use lib.ListN.{length, length-replicate}
use Rattle.strength.specs.InNumbers.{strength_numbers, FindsStrengths}
use Rattle.strength.proofs.finding.find_strengths.Goals as goal

pub returns : goal.returns
unfolding FindsStrengths
returns c few zeros = c.put_in.ensures.strengths (ap length zeros ∙ length-replicate {A = ℕ} strength_numbers 0) _ (c.find.ensures few c.none-found.ensures.marks)
