-- The place that the search comes to holds the name, or the name stands nowhere.
use native.Mathlib.Omega.{arith}
use borrow.Author.Rules.{rules}
use Rattle.strength.proofs.Naming.{name_there, name_absent}
use Rattle.strength.proofs.names.Names.place_of.Goals as goal
use Rattle.strength.proofs.names.Names.place_of.Goals.{else-place-self-via-then-place-self+else-self-place, else-place-self-via-else-place-self}

pub returns-then-self-place : goal.returns-then-self-place
returns-then-self-place c =
    let list = c.args.self.now in
    name_there list.numbers _ _ _ list.few (search rules) list.rising c.below-place.ensures.below c.if-place-self.true c.if-self-place.true

pub returns-else-place-self : goal.returns-else-place-self
returns-else-place-self c =
    let list = c.args.self.now in
    name_absent list.numbers _ _ _ list.few (search rules) list.rising c.below-place.ensures.below
    (λ inside found. elim c.else-place-self.branch [ else-place-self-via-then-place-self+else-self-place w ↦ w.if-self-place.false found | else-place-self-via-else-place-self w ↦ omega arith ])
