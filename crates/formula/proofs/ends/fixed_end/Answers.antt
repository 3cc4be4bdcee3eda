-- A name is a place for names, a time one for times.
use mathlib.Core.Path.{sym}
use Rattle.formula.proofs.Endings.{no_term, a_name, a_time}
use Rattle.formula.proofs.ends.fixed_end.Goals as goal

pub returns-in_err-term : goal.returns-in_err-term
returns-in_err-term c = rw c.from_residual.ensures (λ sorts. no_term _ _ _ sorts (sym c.in_err-term.ensures.reads))

pub returns-in-Name : goal.returns-in-Name
returns-in-Name c = λ sorts. a_name _ _ _ sorts _ _ _ c.in-Name.is (sym c.in_ok-term.ensures.reads)

pub returns-in-When : goal.returns-in-When
returns-in-When c = λ sorts. a_time _ _ _ sorts _ _ _ c.in-When.is (sym c.in_ok-term.ensures.reads)
