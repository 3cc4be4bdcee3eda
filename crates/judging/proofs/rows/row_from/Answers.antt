-- Each part of the row is what its own call found.
use Rattle.judging.specs.RowsOf.{row_from, numbers_from}
use Rattle.judging.proofs.rows.row_from.Goals as goal

pub returns : goal.returns
unfolding row_from numbers_from
returns c = λ d. record {
  whose = c.whose_in.ensures d;
  judgement = record {
    formula = record {
      at = c.number_in-2.ensures d;
      terms = record {
        count = c.number_in.ensures d;
        numbers = c.numbers_in.ensures d;
      };
    };
    from = c.time_in.ensures d;
    to = c.time_in-2.ensures d;
  };
}
