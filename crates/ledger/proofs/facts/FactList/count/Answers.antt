-- As many facts are listed as are counted.
use mathlib.Core.Path.{sym}
use Rattle.ledger.proofs.Listing.{counted}
use Rattle.ledger.proofs.facts.FactList.count.Goals as goal

pub returns-clause-counts : goal.returns-clause-counts
returns-clause-counts c = rw (← c.self.view_is) (sym (counted _ _ c.self.invariant.0 c.self.invariant.1))
