-- A fact has its count two places on, and ends where its terms do: the loop has passed some of them.
use Rattle.door.proofs.Widths.{TermsPassed}
use Rattle.door.proofs.holding.past_terms.Given as goal

abbrev pub invariant-loop : goal.invariant-loop
invariant-loop l = TermsPassed l.state l.count l.after_count l.next l.counter
