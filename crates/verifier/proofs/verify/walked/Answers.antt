-- With no pair nothing is found or lent, and these are the strengths of none; else they are found. Either way the
-- walk goes by the strengths that the pairs give.
use native.Mathlib.Omega.{arith}
use Rattle.std.proofs.lemmas.Bool.Decides.{nat_tests}
use Rattle.verifier.proofs.ByStrengths.{none_give, found_give, by_strengths}
use Rattle.verifier.proofs.verify.walked.Goals as goal

pub returns-then-is_empty : goal.returns-then-is_empty
returns-then-is_empty c =
    by_strengths _ _ _ _ _ _ _ _ _ (λ ps. none_give _ ps (grind (arith, nat_tests))) c.walked_by.ensures

pub returns : goal.returns
returns c =
    by_strengths _ _ _ _ _ _ _ _ _ (λ ps. found_give _ c.none-strengths.result _ ps c.none-strengths.ensures.marks c.find.ensures) c.walked_by-2.ensures
