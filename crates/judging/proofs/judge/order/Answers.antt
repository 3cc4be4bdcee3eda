-- With its tag an order has two times, which are asked; a stopped ledger goes through the asking unchanged.
use Rattle.procap.proofs.Telling.{holds_else, fails_where}
use Rattle.ledger.proofs.Asked.{order_leads}
use Rattle.formula.proofs.Shapes.{not_order}
use Rattle.judging.proofs.Coming.{stops}
use Rattle.judging.proofs.WalkParts.{no_order}
use Rattle.judging.proofs.PlacesTaken.{order_taken}
use Rattle.judging.proofs.judge.order.Goals as goal

pub returns-then-not-is_a : goal.returns-then-not-is_a
returns-then-not-is_a c =
    let told = c.is_a in
    λ state list G s m. stops s (no_order _ (not_order _ 0 _ m (fails_where told.result c.if-not-is_a.true-raw told.ensures))) c.misfit.ensures

pub returns : goal.returns
returns c =
    λ state list G s m.
    order_taken m c.past.ensures.there _ (holds_else c.is_a.result c.if-not-is_a.false-raw c.is_a.ensures)
    c.span_at-span.ensures
    s
    (order_leads _ _ _ _ c.ask_order.ensures state list)
