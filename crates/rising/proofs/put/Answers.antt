-- With no room left nothing is to be shown. Else the number is found at its place, or is put there.
use mathlib.Core.Path.{refl}
use native.Mathlib.Omega.{arith}
use borrow.Author.Rules.{rules}
use Rattle.rising.proofs.Putting.{puts_nothing, puts_one}
use Rattle.rising.proofs.put.Goals as goal
use Rattle.rising.proofs.put.Goals.{else-place-count-via-then-place-count+else-numbers-place, else-place-count-via-else-place-count}

pub returns-then-numbers-count : goal.returns-then-numbers-count
returns-then-numbers-count c = record { within = omega arith; kept = refl; puts = λ room rise. absurd (omega arith) }

pub returns-then-numbers-place : goal.returns-then-numbers-place
returns-then-numbers-place c =
    let counted = c.below-place in record { within = omega arith; kept = refl; puts = puts_nothing _ _ _ counted.result (omega arith) counted.ensures.below c.if-place-count.true c.if-numbers-place.true }

pub returns : goal.returns
returns c =
    let counted = c.below-place in record {
      within = omega arith;
      kept = search rules;
      puts = puts_one _ _ _ counted.result (omega arith) counted.ensures.below _
          (λ inside found. elim c.else-place-count.branch [ else-place-count-via-then-place-count+else-numbers-place w ↦ absurd (w.if-numbers-place.false found) | else-place-count-via-else-place-count w ↦ omega arith ])
          (search rules) c.put_at.ensures;
    }
