-- A procap that the input comes to is written, and for a refusal its two lines are.
use mathlib.Core.Path.{sym, ◌∙◌}
use Rattle.cases.proofs.CasesAnswered.{issued_answered, refused_answered}
use Rattle.cases.proofs.answering.answer_case.Goals as goal

pub returns-in-Ok : goal.returns-in-Ok
returns-in-Ok c = rw (issued_answered _ _ _ (sym c.checked.ensures ∙ c.in-Ok.is)) c.write_text.ensures

pub returns-in-Err : goal.returns-in-Err
returns-in-Err c = rw (refused_answered _ _ _ (sym c.checked.ensures ∙ c.in-Err.is)) c.write_refusal.ensures
