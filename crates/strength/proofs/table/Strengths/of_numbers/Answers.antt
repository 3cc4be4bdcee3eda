-- The names and the marks are those of the numbers.
use mathlib.Core.Path.{◌∙◌}
use Rattle.strength.specs.InNumbers.{marks_at}
use Rattle.strength.proofs.Exchanged.{to_the_end, some_handed}
use Rattle.strength.proofs.table.Strengths.of_numbers.Goals as goal

pub returns-clause-taken : goal.returns-clause-taken
returns-clause-taken c =
    some_handed c.args.numbers.now _ c.if-numbers-ne-STRENGTH_NUMBERS.false c.of_numbers.ensures c.of_numbers-2.ensures
    (c.rows_of.ensures ∙ to_the_end marks_at c.args.numbers.now)
