-- The word, the time and the line's end are read one after another, each from the place after the one before.
use mathlib.Core.Path.{sym, ◌∙◌}
use Rattle.text.proofs.Words.{no_word, word_to}
use Rattle.cases.proofs.Times.{time_no_word, time_no_time, time_no_end, time_here}
use Rattle.cases.proofs.lines.time_line.Goals as goal

pub returns-in_err-after_word : goal.returns-in_err-after_word
returns-in_err-after_word c = c.from_residual.ensures ∙ sym (time_no_word _ _ _ (no_word _ c.in_err-after_word.ensures))

pub returns-in_err-time : goal.returns-in_err-time
returns-in_err-time c =
    c.from_residual-in_err-time.ensures
    ∙ sym (time_no_time _ _ _ _ (word_to _ _ c.in_ok-after_word.ensures) (sym c.in_err-time.ensures))

pub returns-in_err-next : goal.returns-in_err-next
returns-in_err-next c =
    c.from_residual-in_err-next.ensures
    ∙ sym (time_no_end _ _ _ _ (word_to _ _ c.in_ok-after_word.ensures) _ _ (sym c.in_ok-time.ensures) (no_word _ c.in_err-next.ensures))

pub returns : goal.returns
returns c =
    sym (time_here _ _ _ _ (word_to _ _ c.in_ok-after_word.ensures) _ _ (sym c.in_ok-time.ensures) _ (word_to _ _ c.in_ok-next.ensures))
