-- Two bytes of predicate and one of count, at most four, and then so many arguments.
use mathlib.Core.Path.{sym}
use Rattle.bl.specs.Formulas.{argument}
use Rattle.formula.proofs.Endings.{no_predicate, no_count, too_many, arguments_end}
use Rattle.formula.proofs.ends.arguments_end.Goals as goal

pub returns-in_err-after_predicate : goal.returns-in_err-after_predicate
returns-in_err-after_predicate c = rw c.from_residual.ensures (no_predicate _ _ _ (sym c.in_err-after_predicate.ensures.reads))

pub returns-in_err-count : goal.returns-in_err-count
returns-in_err-count c =
    rw c.from_residual-in_err-count.ensures
    (no_count _ _ _ _ _ (sym c.in_ok-after_predicate.ensures.reads) (sym c.in_err-count.ensures.reads))

pub returns-then-terms-gt-MOST_TERMS : goal.returns-then-terms-gt-MOST_TERMS
returns-then-terms-gt-MOST_TERMS c =
    too_many _ _ _ _ _ (sym c.in_ok-after_predicate.ensures.reads) _ _ (sym c.in_ok-count.ensures.reads) c.if-terms-gt-MOST_TERMS.true

pub returns : goal.returns
returns c =
    arguments_end _ (argument c.args.part.now c.args.binders.now) _ _ _ (sym c.in_ok-after_predicate.ensures.reads)
    _ _ (sym c.in_ok-count.ensures.reads)
    c.many_end.result c.if-terms-gt-MOST_TERMS.false c.many_end.ensures
