-- What is put are the strengths as numbers, and these are strengths of the same pairs.
use borrow.Author.Rules.{rules}
use Rattle.strength.proofs.Exchanged.{pairs_put}
use Rattle.strength.proofs.table.Strengths.put_in.Goals as goal

pub returns-then-numbers-eq-STRENGTH_NUMBERS-clause-strengths :
    goal.returns-then-numbers-eq-STRENGTH_NUMBERS-clause-strengths
returns-then-numbers-eq-STRENGTH_NUMBERS-clause-strengths c size ps given =
    rw (c.put_in.ensures, c.put_in-then-numbers-eq-STRENGTH_NUMBERS.ensures, c.put_rows.ensures)
    (pairs_put c.args.self.now (search rules) (search rules) (search rules) ps given)
