-- A fact has its count two places on, and ends where its terms do: the loop has passed some of them.
use mathlib.Core.Path.{sym}
use native.Mathlib.Omega.{arith}
use Rattle.door.proofs.Widths.{number_width, no_term_passed, one_term_passed, all_terms_passed, count_there, terms_there}
use Rattle.door.proofs.holding.past_terms.Goals as goal

pub returns-in_default-clause-ends : goal.returns-in_default-clause-ends
returns-in_default-clause-ends c = λ f start e two r. absurd (count_there _ start f e r _ two (sym c.in_default.ensures.reads))

pub loop-init : goal.loop-init
loop-init c = no_term_passed _ _ _

pub loop-preserved : goal.loop-preserved
loop-preserved c = one_term_passed c.loop.invariant c.loop-test.true _ c.past_term-next.ensures.ends c.past_term-next.ensures.onwards

pub returns : goal.returns
returns c =
    let count = sym c.in-Some.ensures.reads in
    let one = number_width _ 1 _ _ _ count in
    record {
      ends = λ f start e two r. all_terms_passed c.loop.invariant c.loop-test.false _ e (terms_there _ start f e r _ two _ _ count);
      onwards = omega (arith, c.loop.invariant.onwards, one);
    }
