-- The word, the predicate and the terms are read one after another. A predicate is at most 65,535, so that it fits.
use mathlib.Core.Path.{sym}
use Rattle.text.proofs.Words.{no_word, word_to}
use Rattle.text.proofs.FactLines.{no_fact_word, no_predicate, fact_line_with}
use Rattle.text.proofs.facts.fact_at.Goals as goal

pub returns-in_err-after_word : goal.returns-in_err-after_word
returns-in_err-after_word c = rw c.from_residual.ensures (no_fact_word _ _ (no_word _ c.in_err-after_word.ensures))

pub returns-in_err-predicate : goal.returns-in_err-predicate
returns-in_err-predicate c =
    rw c.from_residual-in_err-predicate.ensures (no_predicate _ _ _ (word_to _ _ c.in_ok-after_word.ensures) (sym c.in_err-predicate.ensures.reads))

pub returns : goal.returns
returns c =
    rw (fact_line_with _ _ _ (word_to _ _ c.in_ok-after_word.ensures) _ _ (sym c.in_ok-predicate.ensures.reads)) c.fact_with.ensures
