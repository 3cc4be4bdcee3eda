-- The facts passed are put, and read back.
use Rattle.std.proofs.Common.{arith, ◌≡◌, sym}
use mathlib.Core.Logic.{if_neg}
use native.Mathlib.Decide.{ℕ_discrete}
use Rattle.ledger.specs.Numbers.{with_facts}
use Rattle.ledger.specs.Places.{all_stand}
use Rattle.ledger.proofs.Listing.{counted}
use Rattle.ledger.proofs.ListNumbers.{none_yet, one_more, all_read, all_stored}
use Rattle.ledger.proofs.facts.FactList.put_in.Goals as goal

pub returns-then-facts-ne-LIST_NUMBERS-clause-leaves : goal.returns-then-facts-ne-LIST_NUMBERS-clause-leaves
unfolding with_facts
returns-then-facts-ne-LIST_NUMBERS-clause-leaves c = sym (if_neg (ℕ_discrete _ _) c.if-facts-ne-LIST_NUMBERS.true _ _)

pub loop-index-init : goal.loop-index-init
loop-index-init c = none_yet _ _

pub loop-index-preserved : goal.loop-index-preserved
loop-index-preserved c =
    let all = all_stand _ _ _ _ c.self.invariant.0 c.self.invariant.1 in
    one_more c.loop-index.invariant _ _ (omega (arith, all, c.self.invariant.0)) c.put_fact.ensures.stored c.put_fact.ensures.put

pub returns-clause-reads : goal.returns-clause-reads
returns-clause-reads c room =
    let end : c.loop-index.index ≡ c.self.inside.count = omega arith in
    all_read c.loop-index.invariant _ _ end c.self.view_is (counted _ _ c.self.invariant.0 c.self.invariant.1)

pub returns-clause-leaves : goal.returns-clause-leaves
returns-clause-leaves c =
    let end : c.loop-index.index ≡ c.self.inside.count = omega arith in
    all_stored c.loop-index.invariant _ _ end c.self.view_is c.if-facts-ne-LIST_NUMBERS.false
