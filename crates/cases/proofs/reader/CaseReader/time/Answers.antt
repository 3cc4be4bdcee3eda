-- The line is read from where it begins, and the next one begins further on, within the input.
use mathlib.Core.Path.{sym, ◌∙◌}
use Rattle.text.proofs.Forms.{missing_on}
use Rattle.cases.proofs.WentOn.{not_found, went_on, time_further}
use Rattle.cases.proofs.reader.CaseReader.time.Goals as goal

pub returns-in_err-time : goal.returns-in_err-time
returns-in_err-time c =
    let none = c.in_err-time.ensures in
    rw (← c.self.view_is)
    (missing_on _ _ _ _ c.from_residual.ensures.1 _ _ none.value none.ok_part (not_found _ _ (sym c.time_line.ensures ∙ none.ok_part)))

pub go_to-requires-clause-further : goal.go_to-requires-clause-further
go_to-requires-clause-further c = rw (← c.self.view_is) (time_further _ _ _ _ _ (sym c.time_line.ensures ∙ c.in_ok-time.ensures.ok_part)).0

pub go_to-requires-clause-inside : goal.go_to-requires-clause-inside
go_to-requires-clause-inside c = rw (← c.self.view_is) (time_further _ _ _ _ _ (sym c.time_line.ensures ∙ c.in_ok-time.ensures.ok_part)).1

pub returns : goal.returns
returns c =
    let gone = rw (← c.self.view_is) at c.go_to.ensures in
    rw (← c.self.view_is) (went_on _ _ _ _ _ (sym c.time_line.ensures ∙ c.in_ok-time.ensures.ok_part) gone)
