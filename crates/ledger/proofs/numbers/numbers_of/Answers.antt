-- The numbers of four terms are written out, and each two stand for their term.
use Rattle.std.proofs.Common.{arith}
use Rattle.procap.proofs.Indices.{mapped}
use Rattle.ledger.proofs.ListNumbers.{written_out, read_back}
use Rattle.ledger.proofs.numbers.numbers_of.Goals as goal

pub returns-clause-numbers : goal.returns-clause-numbers
returns-clause-numbers c =
    rw (
      c.numbers_of_term-first_kind.ensures.numbers,
      c.numbers_of_term-second_kind.ensures.numbers,
      c.numbers_of_term-third_kind.ensures.numbers,
      c.numbers_of_term-fourth_kind.ensures.numbers,
    )
    (written_out c.args.fact _ _ _ _ (search mapped))

pub returns-clause-back : goal.returns-clause-back
returns-clause-back c =
    rw (
      c.numbers_of_term-first_kind.ensures.numbers,
      c.numbers_of_term-second_kind.ensures.numbers,
      c.numbers_of_term-third_kind.ensures.numbers,
      c.numbers_of_term-fourth_kind.ensures.numbers,
    )
    (read_back c.args.fact _ _ _ _ (search mapped) (omega arith)
    c.numbers_of_term-first_kind.ensures.back
    c.numbers_of_term-second_kind.ensures.back
    c.numbers_of_term-third_kind.ensures.back
    c.numbers_of_term-fourth_kind.ensures.back)
