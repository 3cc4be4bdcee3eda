-- The fact that is passed stands once more further on when `any` tells so, and only then.
use Rattle.std.proofs.Common.{rules}
use mathlib.Core.List.{List, [], ◌∷◌, map}
use mathlib.Core.Path.{◌≡◌}
use lib.ListN.{length}
use native.Mathlib.Omega.{arith}
use Rattle.procap.proofs.Slices.{any_told}
use Rattle.procap.proofs.Telling.{holds, fails}
use Rattle.procap.specs.Tells.{Tells}
use Rattle.procap.specs.Lists.{In, Distinct}
use Rattle.procap.specs.Facts.{spelled}
use Rattle.procap.specs.declared.fact.Fact.{Fact}
use Rattle.procap.proofs.writable.none_twice.Goals.{After-any}
use Rattle.procap.proofs.writable.none_twice.Goals as goal

again : (c : After-any) → Tells c.any.result (In (spelled c.in-Some.fact.now) (map spelled c.in-Some.others.now))
again c = any_told c.in-Some.others.now spelled (spelled c.in-Some.fact.now) c.iter.ensures.rest (λ x b q k. search rules) c.any.ensures.ran

-- None of a fact and others stands twice when the fact is none of the others and none of these stands twice.
module _ (fs others : List Fact) (f : Fact) (e : fs ≡ f ∷ others) where
  once : (In (spelled f) (map spelled others) → ⊥) → Distinct (map spelled others) → Distinct (map spelled fs)
  unfolding Distinct
  once n d = rw e (n, d)

  apart : Distinct (map spelled fs) → (In (spelled f) (map spelled others) → ⊥) × Distinct (map spelled others)
  unfolding Distinct
  apart d = rw e at d

pub returns-then-any : goal.returns-then-any
returns-then-any c =
    λ d.
    (apart _ _ _ c.in-Some.ensures.cases.0 (c.loop-fact.invariant.part d)).0 (holds _ c.if-any.true (again (goal.at.returns-then-any c).After-any))

pub loop-fact-preserved : goal.loop-fact-preserved
loop-fact-preserved c =
    let e = c.in-Some.ensures.cases.0 in
    let n = fails _ c.if-any.false (again (goal.at.loop-fact-preserved c).After-any) in
    record {
      whole = λ d. c.loop-fact.invariant.whole (once _ _ _ e n d);
      part = λ d. (apart _ _ _ e (c.loop-fact.invariant.part d)).1;
    }

none : (fs : List Fact) → length fs ≡ 0 → Distinct (map spelled fs)
unfolding Distinct
none [] e = tt
none (f ∷ fs) e = absurd (omega arith)

pub returns : goal.returns
returns c = c.loop-fact.invariant.whole (none _ c.in_default.ensures.cases)
