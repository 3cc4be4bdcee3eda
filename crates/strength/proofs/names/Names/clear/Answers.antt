-- None is few, and none rises.
use native.Mathlib.Omega.{arith}
use Rattle.rising.proofs.RisingLaws.{none_rises}
use Rattle.strength.proofs.names.Names.clear.Goals as goal

pub invariant_of-self : goal.invariant_of-self
invariant_of-self c = record { few = omega arith; rising = none_rises }
