-- Where the walk goes on these are the sides of what was inferred; else the ledger stays.
use mathlib.Core.Path.{refl}
use Rattle.procap.proofs.Telling.{holds_else, fails_where}
use Rattle.judging.proofs.judge.sides_inferred.Goals as goal

pub returns-then-not-goes_on : goal.returns-then-not-goes_on
returns-then-not-goes_on c = record { going = λ going. absurd (fails_where c.goes_on.result c.if-not-goes_on.true-raw c.goes_on.ensures going); stopped = λ n. refl }

pub returns : goal.returns
returns c =
    let going = holds_else c.goes_on.result c.if-not-goes_on.false-raw c.goes_on.ensures in record { going = λ going. c.sides_of.ensures; stopped = λ n. absurd (n going) }
