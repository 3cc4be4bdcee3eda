-- The kind and the number of a term stand for it again: a name is a u16.
use native.Mathlib.Omega.{arith}
use Rattle.procap.proofs.Numbered.{term_numbered}
use Rattle.ledger.proofs.numbers.numbers_of_term.Goals as goal

pub returns-clause-back : goal.returns-clause-back
returns-clause-back c =
    term_numbered _ (λ n e. let h = rw e at c.well_formed.0 in omega arith)
