-- The fact is put in the first place past those that are counted.
use mathlib.Core.Path.{ap}
use Prim.Native.Nat.{◌<◌}
use lib.ListN.{length}
use native.Mathlib.Omega.{arith}
use Rattle.procap.specs.Procaps.{most_facts}
use Rattle.ledger.proofs.Listing.{counted, put_next, zeros_past}
use Rattle.ledger.proofs.facts.FactList.put.Goals as goal

pub invariant_of-self : goal.invariant_of-self
invariant_of-self c =
    let all = counted _ _ c.self.invariant.0 c.self.invariant.1 in
    let room : c.self.inside.count < most_facts = omega (arith, c.requires, ap length c.self.view_is, all) in
    (omega arith, zeros_past _ _ c.self.invariant.0 c.self.invariant.1 room _)

pub returns : goal.returns
returns c =
    let all = counted _ _ c.self.invariant.0 c.self.invariant.1 in
    let room : c.self.inside.count < most_facts = omega (arith, c.requires, ap length c.self.view_is, all) in
    rw (← c.self.view_is) (put_next _ _ c.self.invariant.0 c.self.invariant.1 room _)
