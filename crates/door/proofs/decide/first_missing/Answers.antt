-- The loop has passed the facts that hold; one that does not is the first missing.
use Rattle.procap.proofs.Telling.{holds, fails}
use Rattle.door.proofs.Missing.{none_given, one_more_given, given_missing, all_given_passed}
use Rattle.door.proofs.decide.first_missing.Goals as goal

pub loop-i-init : goal.loop-i-init
loop-i-init g c = none_given

pub returns-then-not-holds_at : goal.returns-then-not-holds_at
returns-then-not-holds_at g c =
    given_missing c.loop-i.invariant c.loop-i-test.true _ c.fact.ensures (λ σ s. fails _ c.if-not-holds_at.true (c.holds_at.ensures σ s))

pub loop-i-preserved : goal.loop-i-preserved
loop-i-preserved g c =
    one_more_given c.loop-i.invariant c.loop-i-test.true _ c.fact.ensures (λ σ s. holds _ c.if-not-holds_at.false (c.holds_at.ensures σ s))

pub returns : goal.returns
returns g c = all_given_passed c.loop-i.invariant c.loop-i-test.false
