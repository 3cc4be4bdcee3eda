-- Each call of the closure tells of its fact whether it is spelled as the one that is looked for.
use Rattle.std.proofs.Common.{rules}
use Rattle.procap.proofs.Slices.{any_told}
use Rattle.procap.specs.Facts.{spelled}
use Rattle.ledger.proofs.facts.FactList.has.Goals as goal

pub returns : goal.returns
returns c = rw (← c.self.view_is) (any_told _ spelled (spelled c.args.fact) c.iter.ensures.rest (λ x b q k. search rules) c.any.ensures.ran)
