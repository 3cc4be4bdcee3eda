-- It is put past the count, and waits before the others.
use native.Mathlib.Omega.{arith}
use lib.ListN.{length-set}
use Rattle.steps.proofs.Stacked.{as_many, put_on}
use Rattle.steps.proofs.waiting.Waiting.push.Goals as goal

pub listed : goal.listed
listed c =
    let below = rw (← c.self.view_is, as_many) at c.requires in
    omega (arith, below, c.self.invariant)

pub bounds-self-inside-self-inside : goal.bounds-self-inside-self-inside
bounds-self-inside-self-inside c = rw (← c.self.view_is, as_many) at c.requires

pub invariant_of-self : goal.invariant_of-self
invariant_of-self c =
    let below = rw (← c.self.view_is, as_many) at c.requires in
    (omega (arith, below), simp length-set c.self.invariant.1)

pub returns : goal.returns
returns c =
    let below = rw (← c.self.view_is, as_many) at c.requires in
    rw (← c.self.view_is) (put_on c.self.inside.things c.self.inside.count _ (omega (arith, below, c.self.invariant)))
