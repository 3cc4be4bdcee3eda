-- One principal is as strong as another where it is the same, and else where it is marked above it.
use Prim.Native.Nat.{ℕ}
use mathlib.Core.Path.{◌≡◌}
use mathlib.Core.Bool.{Bool, true}
use mathlib.Core.Logic.{inl, inr}
use Rattle.procap.specs.Tells.{Tells}
use Rattle.procap.proofs.Telling.{tells_by}
use Rattle.bl.specs.Strength.{as_itself}
use Rattle.strength.specs.Strengths.{StrengthsLent, LentAbove, TellsStrength}

module _ (lent : StrengthsLent) (k j : ℕ) where
  pub tells_itself : k ≡ j → TellsStrength lent k j true
  tells_itself e ps gives = rw e as_itself

  pub tells_marked : (r : Bool) → (k ≡ j → ⊥) → Tells r (LentAbove lent k j) → TellsStrength lent k j r
  tells_marked r other t ps gives = tells_by r (gives.only k j) (λ a. elim (gives.told k j a) [ inl e ↦ absurd (other e) | inr m ↦ m ]) t
