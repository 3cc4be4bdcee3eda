-- A ledger that has stopped stays. At the office the fact is listed; at a press it stands in the state with the moment put in, or stops the walk.
-- Each book that is left so leads where the question does.
use mathlib.Core.Path.{sym, ap, ◌∙◌}
use mathlib.Core.Logic.{if_pos, if_neg}
use Rattle.procap.specs.Deciding.{holds_at?}
use Rattle.ledger.specs.Books.{book}
use Rattle.ledger.specs.Asking.{fact_asked}
use Rattle.ledger.proofs.Asking.{holds_there, holds_not}
use Rattle.ledger.proofs.Asked.{asked_stopped, asked_office, asked_press, fact_leads}
use Rattle.ledger.proofs.ask_fact.Goals as goal

pub returns-then-not-goes_on-clause-leaves : goal.returns-then-not-goes_on-clause-leaves
unfolding fact_asked
returns-then-not-goes_on-clause-leaves c = asked_stopped _ _ _ _ c.if-not-goes_on.ensures

pub returns-then-not-goes_on-clause-leads : goal.returns-then-not-goes_on-clause-leads
returns-then-not-goes_on-clause-leads c = λ s form few. fact_leads _ _ _ _ _ s (returns-then-not-goes_on-clause-leaves c) form

pub returns-then-press-eq0-clause-leaves : goal.returns-then-press-eq0-clause-leaves
unfolding fact_asked
returns-then-press-eq0-clause-leaves c =
    ap (book c.args.ledger) c.list_fact.ensures ∙ asked_office _ _ _ _ c.if-not-goes_on.ensures c.if-press-eq0.true

pub returns-then-press-eq0-clause-leads : goal.returns-then-press-eq0-clause-leads
returns-then-press-eq0-clause-leads c = λ s form few. fact_leads _ _ _ _ _ s (returns-then-press-eq0-clause-leaves c) form

pub returns-then-stands_in-clause-leaves : goal.returns-then-stands_in-clause-leaves
unfolding fact_asked
returns-then-stands_in-clause-leaves c =
    sym (if_pos (holds_at? _ _ _) (holds_there _ _ _ _ c.at_moment.ensures c.if-stands_in.ensures) _ _)
    ∙ asked_press _ _ _ _ c.if-not-goes_on.ensures c.if-press-eq0.false

pub returns-then-stands_in-clause-leads : goal.returns-then-stands_in-clause-leads
returns-then-stands_in-clause-leads c = λ s form few. fact_leads _ _ _ _ _ s (returns-then-stands_in-clause-leaves c) form

pub returns-clause-leaves : goal.returns-clause-leaves
unfolding fact_asked
returns-clause-leaves c =
    rw c.stopped.ensures
    (sym (if_neg (holds_at? _ _ _) (holds_not _ _ _ _ c.at_moment.ensures c.if-stands_in.ensures) _ _)
    ∙ asked_press _ _ _ _ c.if-not-goes_on.ensures c.if-press-eq0.false)

pub returns-clause-leads : goal.returns-clause-leads
returns-clause-leads c = λ s form few. fact_leads _ _ _ _ _ s (returns-clause-leaves c) form
