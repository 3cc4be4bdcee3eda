-- The head that is read is the fact's, which has four terms at the most, and then its places spell it.
use native.Mathlib.Omega.{arith}
use Rattle.formula.proofs.FactsSpelled.{no_head_read, few_read, spells_fact}
use Rattle.formula.proofs.parts.fact_at.Goals as goal

pub returns-in_err-head-clause-spells : goal.returns-in_err-head-clause-spells
returns-in_err-head-clause-spells c p xs m = absurd (no_head_read _ _ _ c.past.ensures.there p xs m c.in_err-head.ensures)

pub returns-then-head-gt-MOST_TERMS-clause-spells : goal.returns-then-head-gt-MOST_TERMS-clause-spells
returns-then-head-gt-MOST_TERMS-clause-spells c p xs m =
    absurd (omega (arith, few_read _ _ _ c.past.ensures.there p xs m _ c.in_ok-head.ensures, c.if-head-gt-MOST_TERMS.true))

pub returns-clause-spells : goal.returns-clause-spells
returns-clause-spells c p xs m = spells_fact _ _ _ c.past.ensures.there p xs m _ c.in_ok-head.ensures _ c.fact_with.ensures.spells
