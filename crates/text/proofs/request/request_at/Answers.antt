-- The three lines are read one after another, and the first that does not read breaks the form. Each number is at most 65,535, so that it
-- fits a name.
use mathlib.Core.Path.{sym, ◌∙◌}
use Rattle.text.proofs.Forms.{missing_on}
use Rattle.text.proofs.Requests.{no_who, no_what, no_right, request_here}
use Rattle.text.proofs.request.request_at.Goals as goal

-- A line that does not read is the one that is handed back.
pub returns-in_err-who : goal.returns-in_err-who
returns-in_err-who c =
    let none = c.in_err-who.ensures in
    missing_on _ _ _ _ c.from_residual.ensures.1 _ 1 none.value none.ok_part (no_who _ _ (sym c.line.ensures.reads ∙ none.ok_part))

pub returns-in_err-what : goal.returns-in_err-what
returns-in_err-what c =
    let none = c.in_err-what.ensures in
    missing_on _ _ _ _ c.from_residual-in_err-what.ensures.1 _ 2 none.value none.ok_part
    (no_what _ _ _ _ (sym c.line.ensures.reads ∙ c.in_ok-who.ensures.ok_part) (sym c.line-2.ensures.reads ∙ none.ok_part))

pub returns-in_err-right : goal.returns-in_err-right
returns-in_err-right c =
    let none = c.in_err-right.ensures in
    missing_on _ _ _ _ c.from_residual-in_err-right.ensures.1 _ 3 none.value none.ok_part
    (no_right _ _ _ _ (sym c.line.ensures.reads ∙ c.in_ok-who.ensures.ok_part) _ _ (sym c.line-2.ensures.reads ∙ c.in_ok-what.ensures.ok_part)
    (sym c.line-3.ensures.reads ∙ none.ok_part))

pub returns : goal.returns
returns c =
    request_here _ _ _ _ (sym c.line.ensures.reads ∙ c.in_ok-who.ensures.ok_part) _ _ (sym c.line-2.ensures.reads ∙ c.in_ok-what.ensures.ok_part) _ _
    (sym c.line-3.ensures.reads ∙ c.in_ok-right.ensures.ok_part)
