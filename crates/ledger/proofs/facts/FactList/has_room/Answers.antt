-- As many facts are listed as are counted.
use lib.Dec.{ltb}
use borrow.Author.Tests.{ltb-true, ltb-false}
use native.Mathlib.Omega.{arith}
use Rattle.procap.specs.Procaps.{most_facts}
use Rattle.procap.proofs.Telling.{tells_if}
use Rattle.ledger.proofs.Listing.{counted}
use Rattle.ledger.proofs.facts.FactList.has_room.Goals as goal

pub returns : goal.returns
returns c =
    let all = counted _ _ c.self.invariant.0 c.self.invariant.1 in
    rw (← c.self.view_is, all)
    (tells_if (ltb c.self.inside.count most_facts) (λ e. ltb-true _ _ e) (λ e h. let l = ltb-false c.self.inside.count most_facts e in omega arith))
