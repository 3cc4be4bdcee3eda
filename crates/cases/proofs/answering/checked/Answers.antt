-- Too long an input and a line that breaks the form are refused. Else the case was found, and what verify comes to for what was read is
-- what it comes to for the case.
use mathlib.Core.Path.{sym, ◌∙◌}
use Rattle.procap.specs.declared.answer.Answer.TheVariants.{InputMalformed}
use Rattle.cases.proofs.CasesAnswered.{too_long_is_no_case, broken_is_no_case, lines_say_case, no_case_checked, case_checked}
use Rattle.cases.proofs.CasesFound.{verified_case, split_inside}
use Rattle.cases.proofs.answering.checked.Goals as goal

pub returns-then-input-gt-MOST_INPUT : goal.returns-then-input-gt-MOST_INPUT
returns-then-input-gt-MOST_INPUT c =
    sym (no_case_checked _ (InputMalformed 0) (too_long_is_no_case _ c.if-input-gt-MOST_INPUT.true))

pub verified-requires : goal.verified-requires
verified-requires c = rw c.bytes.ensures (split_inside _ _ _ c.in-Ok.ensures)

pub returns-in-Ok : goal.returns-in-Ok
returns-in-Ok c =
    let f = rw c.new-reader.ensures at c.in-Ok.ensures in
    let reads = lines_say_case _ c.if-input-gt-MOST_INPUT.false f.found f.line f.next f.reads in
    rw c.bytes.ensures at c.verified.ensures ∙ verified_case _ _ _ f ∙ sym (case_checked _ f.found reads)

pub returns-in-Err : goal.returns-in-Err
returns-in-Err c =
    let breaks = rw c.new-reader.ensures at c.in-Err.ensures in
    sym (no_case_checked _ _ (broken_is_no_case _ c.if-input-gt-MOST_INPUT.false _ breaks))
