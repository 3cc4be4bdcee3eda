-- Each pair of kinds is one law: names by their numbers, times by two questions, and what is of another kind does not fit.
use Rattle.ledger.proofs.Asked.{order_leads}
use Rattle.formula.proofs.ComparingPlaces.{names_same, name_no_time, time_no_name, times_same}
use Rattle.formula.proofs.compare.same_term.Goals as goal

pub returns-in-Name-other : goal.returns-in-Name-other
returns-in-Name-other c =
    names_same _ _ _ _ _ _ _
    c.in-Name.is
    c.in-Name-other.is
    c.same_number.ensures

pub returns-in-When-other : goal.returns-in-When-other
returns-in-When-other c =
    name_no_time _ _ _ _ _ _ _
    c.in-Name.is
    c.in-When-other.is
    c.misfit.ensures

pub returns-in-Name-other-2 : goal.returns-in-Name-other-2
returns-in-Name-other-2 c =
    time_no_name _ _ _ _ _ _ _
    c.in-When.is
    c.in-Name-other-2.is
    c.misfit-in-Name-other-2.ensures

pub returns-in-When-other-2 : goal.returns-in-When-other-2
returns-in-When-other-2 c =
    times_same _ _ _ _ _ _ _ c.ask_order-asked.result
    c.in-When.is
    c.in-When-other-2.is
    (order_leads _ _ _ _ c.ask_order-asked.ensures)
    (order_leads _ _ _ _ c.ask_order.ensures)
