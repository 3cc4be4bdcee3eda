-- The name stands there, so its place is what the search comes to.
use borrow.Author.Rules.{rules}
use Rattle.strength.proofs.Naming.{known_there}
use Rattle.strength.proofs.names.Names.known_place_of.Goals as goal

pub returns : goal.returns
returns c =
    let list = c.args.self.now in
    known_there list.numbers _ _ _ list.few (search rules) list.rising c.below.ensures.below c.requires
