-- The numbers are stored at the index, where they are the fact.
use Rattle.std.proofs.Common.{arith, ap, ◌∙◌, ◌*◌}
use Rattle.std.proofs.lemmas.List.Edits.{sets}
use Rattle.ledger.specs.Numbers.{fact_numbers, fact_in}
use Rattle.ledger.proofs.ListNumbers.{fact_stored}
use Rattle.ledger.proofs.numbers.put_fact.Goals as goal

pub returns-clause-stored : goal.returns-clause-stored
returns-clause-stored c = c.put_numbers.ensures ∙ ap (sets c.args.facts.now (c.args.index * fact_numbers)) c.numbers_of.ensures.numbers

pub returns-clause-put : goal.returns-clause-put
returns-clause-put c =
    ap (λ l. fact_in l c.args.index) c.put_numbers.ensures
    ∙ fact_stored c.args.facts.now c.numbers_of.result c.args.index c.numbers_of.ensures.all (omega arith)
    ∙ c.numbers_of.ensures.back
