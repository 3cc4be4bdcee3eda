-- The terms read so far are kept in the array, and the rest is still to be read. Where no space follows, or after four terms, only the
-- line's end may stand.
use Prim.Native.Nat.{◌+◌, ◌-◌}
use mathlib.Core.Path.{refl, sym, ap, ◌∙◌}
use native.Mathlib.Omega.{arith}
use Rattle.std.proofs.lemmas.List.{set-get_or}
use Rattle.procap.specs.Lists.{pad}
use Rattle.procap.specs.Facts.{most_terms}
use Rattle.procap.proofs.ReadSoFar.{none_yet, one_more}
use Rattle.procap.proofs.WithPredicate.{no_fact_with, fact_with}
use Rattle.text.specs.Reader.{terms}
use Rattle.text.proofs.Words.{no_word, word_to}
use Rattle.text.proofs.Terms.{no_term_after, term_after, no_space, no_line_end, line_ends}
use Rattle.text.proofs.facts.fact_with.Goals.{else-loop-argument-test, then-loop-argument-test+in_default}
use Rattle.text.proofs.facts.fact_with.Goals as goal

pub loop-argument-init : goal.loop-argument-init
unfolding pad
loop-argument-init c = (refl, none_yet refl refl)

pub returns-in_err-term : goal.returns-in_err-term
returns-in_err-term c =
    let here = c.loop-argument in
    rw c.from_residual.ensures
    (no_fact_with _ here.invariant.1
    (no_term_after _ _ (most_terms - 1 - here.count) _ (omega arith) _ (word_to _ _ c.in-Some.ensures) (sym c.in_err-term.ensures)))

pub loop-argument-preserved : goal.loop-argument-preserved
loop-argument-preserved c =
    let here = c.loop-argument in
    let more = one_more here.invariant.1 _ _ (omega arith) refl
    (term_after _ _ (most_terms - (here.count + 1)) _ (omega arith) _ _ _ (word_to _ _ c.in-Some.ensures) (sym c.in_ok-term.ensures)) in
    (omega arith, rw (sym here.invariant.0) more)

-- After the loop only the line's end may stand.
pub returns-in_err-line_end : goal.returns-in_err-line_end
returns-in_err-line_end c =
    let here = c.loop-argument in
    let end = no_line_end _ _ (no_word _ c.in_err-line_end.ensures) in
    rw c.from_residual-in_err-line_end.ensures
    (elim c.loop-argument-test.branch [
      | else-loop-argument-test w ↦ no_fact_with _ here.invariant.1 (ap (λ n. terms c.args.text.now n here.next) (omega arith) ∙ end)
      | then-loop-argument-test+in_default w ↦
          no_fact_with _ here.invariant.1
          (no_space c.args.text.now _ (most_terms - 1 - here.count) _ (omega (arith, w.loop-argument-test.true)) (no_word _ w.in_default.ensures) ∙ end)
    ])

pub returns : goal.returns
returns c =
    let here = c.loop-argument in
    let end = line_ends _ _ _ (word_to _ _ c.in_ok-line_end.ensures) in
    elim c.loop-argument-test.branch [
      | else-loop-argument-test w ↦
          rw w.arguments-is (fact_with _ here.invariant.1 _ (ap (λ n. terms c.args.text.now n here.next) (omega arith) ∙ end))
      | then-loop-argument-test+in_default w ↦
          rw (w.arguments-is ∙ set-get_or here.argument-items here.argument-index _)
          (fact_with _ here.invariant.1 _
          (no_space c.args.text.now _ (most_terms - 1 - here.count) _ (omega (arith, w.loop-argument-test.true)) (no_word _ w.in_default.ensures) ∙ end))
    ]
