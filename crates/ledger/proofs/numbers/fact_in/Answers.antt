-- Each number and each term is that of the definition.
use Rattle.ledger.specs.Numbers.{fact_in}
use Rattle.ledger.proofs.numbers.fact_in.Goals as goal

pub returns : goal.returns
unfolding fact_in
returns c =
    rw (
      c.number_in-2.ensures,
      c.number_in.ensures,
      c.argument_in-fourth.ensures,
      c.argument_in-third.ensures,
      c.argument_in-second.ensures,
      c.argument_in-first.ensures,
    )
