-- Two bytes of predicate and one of count, at most four: else there is no fact, and then it is the one of the terms behind them.
use Rattle.std.proofs.Common.{sym}
use Rattle.state.proofs.Terms.{no_predicate, no_count, too_many, with_terms}
use Rattle.state.proofs.fact_at.Goals as goal

pub returns-in_err-predicate : goal.returns-in_err-predicate
returns-in_err-predicate c = rw c.from_residual.ensures (no_predicate _ _ (sym c.in_err-predicate.ensures.reads))

pub returns-in_err-count : goal.returns-in_err-count
returns-in_err-count c =
    rw c.from_residual-in_err-count.ensures
    (no_count _ _ _ _ (sym c.in_ok-predicate.ensures.reads) (sym c.in_err-count.ensures.reads))

pub returns-then-terms-gt-MOST_TERMS : goal.returns-then-terms-gt-MOST_TERMS
returns-then-terms-gt-MOST_TERMS c =
    too_many _ _ _ _ (sym c.in_ok-predicate.ensures.reads) _ _ (sym c.in_ok-count.ensures.reads) c.if-terms-gt-MOST_TERMS.true

pub returns-in_err-fact : goal.returns-in_err-fact
returns-in_err-fact c =
    rw (
      c.from_residual-in_err-fact.ensures,
      with_terms _ _ _ _ (sym c.in_ok-predicate.ensures.reads) _ _ (sym c.in_ok-count.ensures.reads) c.if-terms-gt-MOST_TERMS.false,
    )
    c.in_err-fact.ensures.reads

pub returns : goal.returns
returns c =
    rw
    (with_terms _ _ _ _ (sym c.in_ok-predicate.ensures.reads) _ _ (sym c.in_ok-count.ensures.reads) c.if-terms-gt-MOST_TERMS.false)
    c.in_ok-fact.ensures.reads
