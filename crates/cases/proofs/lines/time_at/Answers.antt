-- The three readers are tried one after another at the same place: a minus, a plus, and a moment.
use mathlib.Core.Path.{sym, ◌∙◌}
use Rattle.text.proofs.Words.{no_word, word_to}
use Rattle.cases.proofs.Times.{minus_here, plus_here, moment_here, no_time}
use Rattle.cases.proofs.lines.time_at.Goals as goal

pub returns-in-Some : goal.returns-in-Some
returns-in-Some c = sym (minus_here _ _ _ (word_to _ _ c.in-Some.ensures))

pub returns-in-Some-after : goal.returns-in-Some-after
returns-in-Some-after c = sym (plus_here _ _ (no_word _ c.in_default.ensures) _ (word_to _ _ c.in-Some-after.ensures))

pub returns-in_err-second : goal.returns-in_err-second
returns-in_err-second c =
    c.from_residual.ensures
    ∙ sym (no_time _ _ (no_word _ c.in_default.ensures) (no_word _ c.in_default-after.ensures) (sym c.in_err-second.ensures.reads))

pub returns : goal.returns
returns c = sym (moment_here _ _ (no_word _ c.in_default.ensures) (no_word _ c.in_default-after.ensures) _ _ (sym c.in_ok-second.ensures.reads))
