-- The walk over a proof, in one cycle of calls: each answer is a law of Inferring, Checking or CheckingCases, over what the calls before it promise.
-- Each call keeps the rows below its count, so what stood around the first call of a step stands around its second.
use Prim.Native.Nat.{ℕ}
use Prim.Native.Nat.{suc, ◌-◌}
use mathlib.Core.Path.{◌≡◌, sym, ap}
use native.Mathlib.Omega.{arith}
use Rattle.walk.specs.WalkCalls.{puts_at, puts_says, puts_left, puts_right, takes_at, takes_says}
use Rattle.walk.proofs.Surroundings.{keeps_then, keeps_as_read, keeps_assumed, checks_kept}
use Rattle.walk.proofs.Inferring.{infer_none, infer_tagged, infer_local, infer_certificate, infer_no_tag, infer_no_term, infer_first, infer_second, infer_instance, infer_apply_stopped, infer_apply}
use Rattle.walk.proofs.Checking.{check_none, check_tagged, check_inferred, check_no_tag, check_trivial, check_state, check_order}
use Rattle.walk.proofs.Checking.{check_pair_unfit, check_pair_stopped, check_pair, check_put_unfit, check_put, check_take_stopped, check_take}
use Rattle.walk.proofs.CheckingCases.{check_falsity, check_cases_unfit, check_cases_stopped, check_cases}
use Rattle.walk.proofs.Sources.+walk.Goals as goal

-- Where a level is left, it is one more than those below.
a_level : (n : ℕ) → (n ≡ 0 → ⊥) → n ≡ suc (n - 1)
a_level n h = omega (arith, h)

pub infer-returns-then-here-eq0-clause-walks : goal.infer-returns-then-here-eq0-clause-walks
infer-returns-then-here-eq0-clause-walks t c =
    infer_none _ _ _ _ _ _ _ c.if-here-eq0.true

pub infer-returns-in_default-clause-walks : goal.infer-returns-in_default-clause-walks
infer-returns-in_default-clause-walks t c =
    infer_no_tag _ _ _ _ _ _ _ (sym c.in_default.ensures)

pub infer-returns-clause-walks : goal.infer-returns-clause-walks
infer-returns-clause-walks t c =
    infer_tagged _ _ _ _ _ _ _ _ _ (a_level c.args.here.left c.if-here-eq0.false) (sym c.in-Some.ensures) c.infer_by.ensures.walks

pub infer_by-returns-in-LocalTag-clause-walks : goal.infer_by-returns-in-LocalTag-clause-walks
infer_by-returns-in-LocalTag-clause-walks t c =
    rw c.in-LocalTag.is (infer_local _ _ _ _ _ _ _ c.local.ensures)

pub infer_by-returns-in-CertificateTag-clause-walks : goal.infer_by-returns-in-CertificateTag-clause-walks
infer_by-returns-in-CertificateTag-clause-walks t c =
    rw c.in-CertificateTag.is (infer_certificate _ _ _ _ _ _ _ c.certificate.ensures)

pub infer_by-returns-in-FirstTag-clause-walks : goal.infer_by-returns-in-FirstTag-clause-walks
infer_by-returns-in-FirstTag-clause-walks t c =
    let infers = rw c.part.ensures at c.infer-part.ensures.walks in
    rw c.in-FirstTag.is (infer_first _ _ _ _ _ _ _ c.past-begin.ensures.there infers c.conjunct.ensures)

pub infer_by-returns-in-SecondTag-clause-walks : goal.infer_by-returns-in-SecondTag-clause-walks
infer_by-returns-in-SecondTag-clause-walks t c =
    let infers = rw c.part-in-SecondTag.ensures at c.infer-part-in-SecondTag.ensures.walks in
    rw c.in-SecondTag.is (infer_second _ _ _ _ _ _ _ c.past-begin.ensures.there infers c.conjunct-in-SecondTag.ensures)

pub infer_by-returns-in-Some-clause-walks : goal.infer_by-returns-in-Some-clause-walks
infer_by-returns-in-Some-clause-walks t c =
    let infers = rw c.part-in-InstanceTag.ensures at c.infer-part-in-InstanceTag.ensures.walks in
    let term = c.in-Some.ensures in
    rw c.in-InstanceTag.is (infer_instance _ _ _ _ _ _ _ c.past-begin.ensures.there term.reads infers (c.instance.ensures term.in_form))

pub infer_by-returns-in_default-clause-walks : goal.infer_by-returns-in_default-clause-walks
infer_by-returns-in_default-clause-walks t c =
    rw c.in-InstanceTag.is (infer_no_term _ _ _ _ _ _ _ c.past-begin.ensures.there c.in_default.ensures.reads)

pub apply-returns-then-not-goes_on-clause-walks : goal.apply-returns-then-not-goes_on-clause-walks
apply-returns-then-not-goes_on-clause-walks t c =
    let used = c.put_to_use-used.ensures in
    infer_apply_stopped _ _ _ _ _ _ _ c.past-begin.ensures.there (rw c.part.ensures at c.infer-part.ensures.walks)
    c.end_in-second_end.ensures used.going used.stopped (ap (λ r. r.ledger) c.nothing.ensures)
    c.if-not-goes_on.ensures

pub apply-returns-clause-walks : goal.apply-returns-clause-walks
apply-returns-clause-walks t c =
    let used = c.put_to_use-used.ensures in
    let kept = rw c.part.ensures at c.infer-part.ensures.keeps in
    infer_apply _ _ _ _ _ _ _ c.past-begin.ensures.there (rw c.part.ensures at c.infer-part.ensures.walks)
    c.end_in-second_end.ensures used.going used.stopped
    c.if-not-goes_on.ensures c.part_at.ensures
    (checks_kept _ _ _ _ _ _ _ _ _ _ (keeps_as_read kept) (rw c.part-second.ensures at c.check-checked.ensures.walks))

pub check-returns-then-here-eq0-clause-walks : goal.check-returns-then-here-eq0-clause-walks
check-returns-then-here-eq0-clause-walks t c =
    check_none _ _ _ _ _ _ _ _ _ c.if-here-eq0.true

pub check-returns-in_default-clause-walks : goal.check-returns-in_default-clause-walks
check-returns-in_default-clause-walks t c =
    check_no_tag _ _ _ _ _ _ _ _ _ (sym c.in_default.ensures)

pub check-returns-clause-walks : goal.check-returns-clause-walks
check-returns-clause-walks t c =
    check_tagged _ _ _ _ _ _ _ _ _ _ _ (a_level c.args.here.left c.if-here-eq0.false) (sym c.in-Some.ensures) c.check_by.ensures.walks

pub check_by-returns-in-PairTag-clause-walks : goal.check_by-returns-in-PairTag-clause-walks
check_by-returns-in-PairTag-clause-walks t c =
    rw c.in-PairTag.is c.pair.ensures.walks

pub check_by-returns-in-TopStepTag-clause-walks : goal.check_by-returns-in-TopStepTag-clause-walks
check_by-returns-in-TopStepTag-clause-walks t c =
    rw c.in-TopStepTag.is (check_trivial _ _ _ _ _ _ _ _ _ c.requires.read c.past-next.ensures.there (c.top.ensures _ _))

pub check_by-returns-in-StateTag-clause-walks : goal.check_by-returns-in-StateTag-clause-walks
check_by-returns-in-StateTag-clause-walks t c =
    rw c.in-StateTag.is (check_state _ _ _ _ _ _ _ _ _ c.requires.read c.past-next.ensures.there c.state_fact.ensures)

pub check_by-returns-in-OrderStepTag-clause-walks : goal.check_by-returns-in-OrderStepTag-clause-walks
check_by-returns-in-OrderStepTag-clause-walks t c =
    rw c.in-OrderStepTag.is (check_order _ _ _ _ _ _ _ _ _ c.requires.read c.past-next.ensures.there (c.order.ensures _ _))

pub check_by-returns-in-AtInTag-clause-walks : goal.check_by-returns-in-AtInTag-clause-walks
check_by-returns-in-AtInTag-clause-walks t c =
    rw c.in-AtInTag.is (c.put_in.ensures.walks _ puts_at)

pub check_by-returns-in-AtOutTag-clause-walks : goal.check_by-returns-in-AtOutTag-clause-walks
check_by-returns-in-AtOutTag-clause-walks t c =
    rw c.in-AtOutTag.is (c.take_out.ensures.walks _ takes_at)

pub check_by-returns-in-SaysInTag-clause-walks : goal.check_by-returns-in-SaysInTag-clause-walks
check_by-returns-in-SaysInTag-clause-walks t c =
    rw c.in-SaysInTag.is (c.put_in-in-SaysInTag.ensures.walks _ puts_says)

pub check_by-returns-in-SaysOutTag-clause-walks : goal.check_by-returns-in-SaysOutTag-clause-walks
check_by-returns-in-SaysOutTag-clause-walks t c =
    rw c.in-SaysOutTag.is (c.take_out-in-SaysOutTag.ensures.walks _ takes_says)

pub check_by-returns-in-OrLeftTag-clause-walks : goal.check_by-returns-in-OrLeftTag-clause-walks
check_by-returns-in-OrLeftTag-clause-walks t c =
    rw c.in-OrLeftTag.is (c.put_in-in-OrLeftTag.ensures.walks _ puts_left)

pub check_by-returns-in-OrRightTag-clause-walks : goal.check_by-returns-in-OrRightTag-clause-walks
check_by-returns-in-OrRightTag-clause-walks t c =
    rw c.in-OrRightTag.is (c.put_in-in-OrRightTag.ensures.walks _ puts_right)

pub check_by-returns-in-OrOutTag-clause-walks : goal.check_by-returns-in-OrOutTag-clause-walks
check_by-returns-in-OrOutTag-clause-walks t c =
    rw c.in-OrOutTag.is c.by_cases.ensures.walks

pub check_by-returns-in-FalsityOutTag-clause-walks : goal.check_by-returns-in-FalsityOutTag-clause-walks
check_by-returns-in-FalsityOutTag-clause-walks t c =
    rw c.in-FalsityOutTag.is (c.by_falsity.ensures.walks c.args.goal.now)

pub check_by-returns-in-InferredTag-clause-walks : goal.check_by-returns-in-InferredTag-clause-walks
check_by-returns-in-InferredTag-clause-walks t c =
    let is = c.in-InferredTag.is in
    rw is (check_inferred _ _ _ _ _ _ _ _ _ _ (rw is at c.requires.read) c.infer_by-inferred.ensures.walks c.checked_by.ensures)

pub pair-returns-then-not-goes_on-clause-walks : goal.pair-returns-then-not-goes_on-clause-walks
pair-returns-then-not-goes_on-clause-walks t c =
    check_pair_unfit _ _ _ _ _ _ _ _ _ c.sides_of-parts.ensures
    c.if-not-goes_on.ensures

pub pair-returns-then-not-goes_on-2-clause-walks : goal.pair-returns-then-not-goes_on-2-clause-walks
pair-returns-then-not-goes_on-2-clause-walks t c =
    check_pair_stopped _ _ _ _ _ _ _ _ _ c.sides_of-parts.ensures
    c.if-not-goes_on.ensures c.past-begin.ensures.there
    (rw (c.part_at.ensures, c.part.ensures) at c.check-one.ensures.walks)
    c.if-not-goes_on-2.ensures

pub pair-returns-clause-walks : goal.pair-returns-clause-walks
pair-returns-clause-walks t c =
    let kept = rw c.part.ensures at c.check-one.ensures.keeps in
    check_pair _ _ _ _ _ _ _ _ _ c.sides_of-parts.ensures
    c.if-not-goes_on.ensures c.past-begin.ensures.there
    (rw (c.part_at.ensures, c.part.ensures) at c.check-one.ensures.walks)
    c.if-not-goes_on-2.ensures
    (checks_kept _ _ _ _ _ _ _ _ _ _ (keeps_as_read kept) (rw (c.part_at-2.ensures, c.part-2.ensures) at c.check.ensures.walks))

pub put_in-returns-then-not-goes_on-clause-walks : goal.put_in-returns-then-not-goes_on-clause-walks
put_in-returns-then-not-goes_on-clause-walks t c =
    check_put_unfit _ _ _ _ _ _ _ _ _ _ c.inside_of-inside.ensures
    c.if-not-goes_on.ensures

pub put_in-returns-clause-walks : goal.put_in-returns-clause-walks
put_in-returns-clause-walks t c =
    check_put _ _ _ _ _ _ _ _ _ _ c.inside_of-inside.ensures
    c.if-not-goes_on.ensures c.past.ensures.there
    (rw (c.inside.ensures, c.part.ensures) at c.check.ensures.walks)

pub take_out-returns-then-not-goes_on-clause-walks : goal.take_out-returns-then-not-goes_on-clause-walks
take_out-returns-then-not-goes_on-clause-walks t c =
    let inside = c.inside_inferred-inside.ensures in
    check_take_stopped _ _ _ _ _ _ _ _ _ _ c.past-begin.ensures.there (rw c.part.ensures at c.infer-inferred.ensures.walks) inside.going inside.stopped
    c.if-not-goes_on.ensures

pub take_out-returns : goal.take_out-returns
take_out-returns t c =
    let kept = rw c.part.ensures at c.infer-inferred.ensures.keeps in
    let inside = c.inside_inferred-inside.ensures in
    let put = c.assume.ensures.rows in
    let all = c.assume.auto.assumptions in
    record {
      walks = check_take _ _ _ _ _ _ _ _ _ _ c.past-begin.ensures.there (rw c.part.ensures at c.infer-inferred.ensures.walks) inside.going inside.stopped
          c.if-not-goes_on.ensures (keeps_as_read kept) put all
          (rw (c.assume.ensures.scope, c.part-2.ensures) at c.check.ensures.walks);
      keeps = keeps_then kept (keeps_assumed c.args.here.scope _ _ put all (rw c.assume.ensures.scope at c.check.ensures.keeps));
    }

pub by_cases-returns-then-not-goes_on-clause-walks : goal.by_cases-returns-then-not-goes_on-clause-walks
by_cases-returns-then-not-goes_on-clause-walks t c =
    let sides = c.sides_inferred-sides.ensures in
    check_cases_unfit _ _ _ _ _ _ _ _ _ c.past-begin.ensures.there (rw c.part.ensures at c.infer-inferred.ensures.walks) sides.going sides.stopped
    c.if-not-goes_on.ensures

pub by_cases-returns-then-not-goes_on-2 : goal.by_cases-returns-then-not-goes_on-2
by_cases-returns-then-not-goes_on-2 t c =
    let sides = c.sides_inferred-sides.ensures in
    let kept = rw c.part.ensures at c.infer-inferred.ensures.keeps in
    let put = rw c.side_on.ensures at c.assume.ensures.rows in
    let all = c.assume.auto.assumptions in
    record {
      walks = check_cases_stopped _ _ _ _ _ _ _ _ _ c.past-begin.ensures.there (rw c.part.ensures at c.infer-inferred.ensures.walks) sides.going sides.stopped
          c.if-not-goes_on.ensures (keeps_as_read kept) put all
          (rw (c.assume.ensures.scope, c.part-2.ensures) at c.check-one.ensures.walks)
          c.if-not-goes_on-2.ensures;
      keeps = keeps_then kept (keeps_assumed c.args.here.scope _ _ put all (rw c.assume.ensures.scope at c.check-one.ensures.keeps));
    }

pub by_cases-returns : goal.by_cases-returns
by_cases-returns t c =
    let sides = c.sides_inferred-sides.ensures in
    let kept = rw c.part.ensures at c.infer-inferred.ensures.keeps in
    let put = rw c.side_on.ensures at c.assume.ensures.rows in
    let all = c.assume.auto.assumptions in
    let kept2 = keeps_then kept (keeps_assumed c.args.here.scope _ _ put all (rw c.assume.ensures.scope at c.check-one.ensures.keeps)) in
    let put2 = rw c.side_on-2.ensures at c.assume-2.ensures.rows in
    let all2 = c.assume-2.auto.assumptions in
    record {
      walks = check_cases _ _ _ _ _ _ _ _ _ c.past-begin.ensures.there (rw c.part.ensures at c.infer-inferred.ensures.walks) sides.going sides.stopped
          c.if-not-goes_on.ensures (keeps_as_read kept) put all
          (rw (c.assume.ensures.scope, c.part-2.ensures) at c.check-one.ensures.walks)
          c.if-not-goes_on-2.ensures
          (keeps_as_read kept2) put2 all2 (rw (c.assume-2.ensures.scope, c.part-3.ensures) at c.check.ensures.walks);
      keeps = keeps_then kept2 (keeps_assumed c.args.here.scope _ _ put2 all2 (rw c.assume-2.ensures.scope at c.check.ensures.keeps));
    }

pub by_falsity-returns-clause-walks : goal.by_falsity-returns-clause-walks
by_falsity-returns-clause-walks t c = λ goal.
    let infers = rw c.part.ensures at c.infer-inferred.ensures.walks in
    check_falsity _ _ _ _ _ _ _ _ _ c.past-begin.ensures.there infers c.from_falsity.ensures
