-- Where the walk has stopped it stays so; else the implication is applied.
use mathlib.Core.Path.{ap}
use Rattle.procap.proofs.Telling.{holds_else, fails_where}
use Rattle.judging.proofs.judge.put_to_use.Goals as goal

pub returns-then-not-goes_on : goal.returns-then-not-goes_on
returns-then-not-goes_on c =
    let stopped = fails_where c.goes_on.result c.if-not-goes_on.true-raw c.goes_on.ensures in record { going = λ state list F a b t1 t2 k e₃ e₄ going s on time₁ time₂. absurd (stopped going); stopped = λ n. ap (λ r. r.ledger) c.unused.ensures }

pub returns : goal.returns
returns c =
    let goes = holds_else c.goes_on.result c.if-not-goes_on.false-raw c.goes_on.ensures in record { going = c.applied.ensures; stopped = λ n. absurd (n goes) }
