-- The loop has the places left: a comparison of those from here is a comparison of all from the start.
use Prim.Native.Nat.{ℕ, suc, ◌+◌, ◌-◌, ◌<◌}
use mathlib.Core.Path.{◌≡◌}
use native.Mathlib.Omega.{arith}
use Rattle.formula.specs.Comparing.{two_at}
use Rattle.formula.proofs.ComparingPlaces.{next_places, no_places, no_left_place, no_right_place}
use Rattle.formula.proofs.compare.Pair.same_places.Goals as goal

-- With one more to compare, as many are left as after it, and one.
one_more : (count i : ℕ) → i < count → count - i ≡ suc (count - (i + 1))
one_more count i l = omega arith

pub loop-init : goal.loop-init
loop-init c =
    let count = c.args.count in
    let all : count - 0 ≡ count = omega arith in
    (omega arith, λ r h. rw all at h)

pub returns-in_default : goal.returns-in_default
returns-in_default c =
    let loop = c.loop in
    loop.invariant.1 _ (no_left_place _ _ (two_at c.args.self.now loop.next) _ _ _ _ _ _ (one_more _ _ c.loop-test.true) c.in_default.ensures)

pub returns-in_default-other : goal.returns-in_default-other
returns-in_default-other c =
    let loop = c.loop in
    loop.invariant.1 _ (no_right_place _ _ (two_at c.args.self.now loop.next) _ _ _ _ _ _ (one_more _ _ c.loop-test.true) c.in_default-other.ensures)

pub loop-preserved : goal.loop-preserved
loop-preserved c =
    let loop = c.loop in (
      omega (arith, c.loop-test.true),
      λ r h. loop.invariant.1 r
          (next_places _ _ (two_at c.args.self.now loop.next) _ _ _ _ _ _ _ _ _ _ r (one_more _ _ c.loop-test.true)
          c.in-Some.ensures
          c.in-Some-other.ensures
          c.same_place-now.ensures
          h),
    )

pub returns : goal.returns
returns c =
    let loop = c.loop in
    let none : c.args.count - loop.counter ≡ 0 = omega (arith, c.loop-test.false) in
    rw c.equal.ensures (loop.invariant.1 _ (no_places _ _ (two_at c.args.self.now loop.next) _ _ _ _ none))
