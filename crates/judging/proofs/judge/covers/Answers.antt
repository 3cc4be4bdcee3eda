-- The two orders, one after the other.
use Rattle.ledger.proofs.Asked.{order_leads}
use Rattle.judging.proofs.JudgingLaws.{both_orders}
use Rattle.judging.proofs.judge.covers.Goals as goal

pub returns : goal.returns
returns c =
    λ state list s.
    let one = order_leads _ _ _ _ c.ask_order-asked.ensures state list s in
    both_orders one (order_leads _ _ _ _ c.ask_order.ensures state list one.sound)
