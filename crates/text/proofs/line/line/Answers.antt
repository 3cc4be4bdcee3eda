-- The word, the number and the line's end are read one after another, each from the place after the one before.
use mathlib.Core.Path.{sym, ◌∙◌}
use Rattle.text.proofs.Words.{no_word, word_to}
use Rattle.text.proofs.Lines.{line_no_word, line_no_number, line_no_end, line_here}
use Rattle.text.proofs.line.line.Goals as goal

pub returns-in_err-after_word-clause-reads : goal.returns-in_err-after_word-clause-reads
returns-in_err-after_word-clause-reads c = c.from_residual.ensures ∙ sym (line_no_word _ _ _ _ (no_word _ c.in_err-after_word.ensures))

pub returns-in_err-value-clause-reads : goal.returns-in_err-value-clause-reads
returns-in_err-value-clause-reads c =
    c.from_residual-in_err-value.ensures
    ∙ sym (line_no_number _ _ _ _ _ (word_to _ _ c.in_ok-after_word.ensures) (sym c.in_err-value.ensures.reads))

pub returns-in_err-next-clause-reads : goal.returns-in_err-next-clause-reads
returns-in_err-next-clause-reads c =
    c.from_residual-in_err-next.ensures
    ∙ sym (line_no_end _ _ _ _ _ (word_to _ _ c.in_ok-after_word.ensures) _ _ (sym c.in_ok-value.ensures.reads) (no_word _ c.in_err-next.ensures))

pub returns-clause-reads : goal.returns-clause-reads
returns-clause-reads c =
    sym (line_here _ _ _ _ _ (word_to _ _ c.in_ok-after_word.ensures) _ _ (sym c.in_ok-value.ensures.reads) _ (word_to _ _ c.in_ok-next.ensures))
