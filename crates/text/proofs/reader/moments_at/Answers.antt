-- The two lines are read one after another, and the moments are in order.
use mathlib.Core.Path.{sym, ◌∙◌}
use Rattle.text.proofs.Readings.{no_from, no_to, out_of_order, moments_here}
use Rattle.text.proofs.reader.moments_at.Goals as goal

pub returns-in_err-from : goal.returns-in_err-from
returns-in_err-from c = c.from_residual.ensures ∙ sym (no_from _ _ (sym c.in_err-from.ensures.reads))

pub returns-in_err-to : goal.returns-in_err-to
returns-in_err-to c =
    c.from_residual-in_err-to.ensures ∙ sym (no_to _ _ _ _ (sym c.in_ok-from.ensures.reads) (sym c.in_err-to.ensures.reads))

pub returns-then-to-from : goal.returns-then-to-from
returns-then-to-from c =
    sym (out_of_order _ _ _ _ (sym c.in_ok-from.ensures.reads) _ _ (sym c.in_ok-to.ensures.reads) c.if-to-from.true)

pub returns : goal.returns
returns c = sym (moments_here _ _ _ _ (sym c.in_ok-from.ensures.reads) _ _ (sym c.in_ok-to.ensures.reads) c.if-to-from.false)
