-- With its tag the goal is a state fact, asked unless a variable is left in it; with another tag it is a misfit.
use Rattle.procap.proofs.Telling.{holds_else, fails_where}
use Rattle.formula.proofs.Shapes.{not_fact}
use Rattle.judging.proofs.Coming.{stops}
use Rattle.judging.proofs.WalkParts.{no_fact}
use Rattle.judging.proofs.PlacesTaken.{fact_open, fact_taken}
use Rattle.judging.proofs.judge.state_fact.Goals as goal

pub returns-then-not-is_a : goal.returns-then-not-is_a
returns-then-not-is_a c =
    let told = c.is_a in
    λ G s m. stops s (no_fact _ (not_fact _ 0 _ m (fails_where told.result c.if-not-is_a.true-raw told.ensures))) c.misfit.ensures

pub returns-in_default : goal.returns-in_default
returns-in_default c =
    λ G s m.
    let tag = holds_else c.is_a.result c.if-not-is_a.false-raw c.is_a.ensures in
    stops s (fact_open m _ tag c.in_default.ensures.spells) c.misfit-in_default.ensures

pub returns : goal.returns
returns c =
    λ G s m.
    let tag = holds_else c.is_a.result c.if-not-is_a.false-raw c.is_a.ensures in
    fact_taken m _ tag _ c.in-Some.ensures.spells (λ in_form. c.ask_fact.ensures.leads s in_form c.in-Some.ensures.few)
