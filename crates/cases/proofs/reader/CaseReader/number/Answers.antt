-- The line is read from where it begins, and the next one begins further on, within the input.
use mathlib.Core.Path.{sym, ◌∙◌}
use Rattle.text.proofs.Forms.{missing_on}
use Rattle.cases.proofs.WentOn.{not_found, went_on, number_further}
use Rattle.cases.proofs.reader.CaseReader.number.Goals as goal

pub returns-in_err-number-clause-reads : goal.returns-in_err-number-clause-reads
returns-in_err-number-clause-reads c =
    let none = c.in_err-number.ensures in
    rw (← c.self.view_is)
    (missing_on _ _ _ _ c.from_residual.ensures.1 _ _ none.value none.ok_part (not_found _ _ (sym c.line.ensures.reads ∙ none.ok_part)))

pub go_to-requires-clause-further : goal.go_to-requires-clause-further
go_to-requires-clause-further c =
    rw (← c.self.view_is) (number_further _ _ _ _ _ _ c.requires (sym c.line.ensures.reads ∙ c.in_ok-number.ensures.ok_part) c.self.invariant.1).0

pub go_to-requires-clause-inside : goal.go_to-requires-clause-inside
go_to-requires-clause-inside c =
    rw (← c.self.view_is) (number_further _ _ _ _ _ _ c.requires (sym c.line.ensures.reads ∙ c.in_ok-number.ensures.ok_part) c.self.invariant.1).1

pub returns-clause-reads : goal.returns-clause-reads
returns-clause-reads c =
    let gone = rw (← c.self.view_is) at c.go_to.ensures in
    rw (← c.self.view_is) (went_on _ _ _ _ _ (sym c.line.ensures.reads ∙ c.in_ok-number.ensures.ok_part) gone)
