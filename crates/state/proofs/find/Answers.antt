-- The loop has read the facts before the place, and the flag tells whether the wanted one stands among them.
use Rattle.procap.proofs.Telling.{holds, fails}
use Rattle.state.proofs.Passes.{no_facts_read, wanted_read, other_read, fact_leaves_less, fact_missing_read, all_facts_read, too_long, not_stated, is_stated}
use Rattle.state.proofs.find.Goals as goal

pub returns-then-state-gt-MOST_STATE_BYTES : goal.returns-then-state-gt-MOST_STATE_BYTES
returns-then-state-gt-MOST_STATE_BYTES c = too_long _ c.if-state-gt-MOST_STATE_BYTES.true

pub loop-at-init : goal.loop-at-init
loop-at-init c = no_facts_read _ _

pub returns-in_err-fact : goal.returns-in_err-fact
returns-in_err-fact c =
    rw c.from_residual.ensures
    (not_stated _ c.if-state-gt-MOST_STATE_BYTES.false
    (fact_missing_read _ _ _ _ c.loop-at.invariant c.loop-at-test.true c.in_err-fact.ensures))

pub loop-at-smaller-then-same : goal.loop-at-smaller-then-same
loop-at-smaller-then-same c = fact_leaves_less _ _ _ _ c.loop-at-test.true c.in_ok-fact.ensures.0

pub loop-at-preserved-then-same : goal.loop-at-preserved-then-same
loop-at-preserved-then-same c =
    wanted_read _ _ _ _ c.loop-at.invariant _ _ c.loop-at-test.true c.in_ok-fact.ensures.0 (holds _ c.if-same.true c.same.ensures)

pub loop-at-smaller : goal.loop-at-smaller
loop-at-smaller c = fact_leaves_less _ _ _ _ c.loop-at-test.true c.in_ok-fact.ensures.0

pub loop-at-preserved : goal.loop-at-preserved
loop-at-preserved c =
    other_read _ _ _ _ c.loop-at.invariant _ _ c.loop-at-test.true c.in_ok-fact.ensures.0 (fails _ c.if-same.false c.same.ensures)

pub returns : goal.returns
returns c =
    let read = c.loop-at.invariant in
    (_, is_stated _ c.if-state-gt-MOST_STATE_BYTES.false _ (all_facts_read _ _ _ _ read c.loop-at-test.false), read.told)
