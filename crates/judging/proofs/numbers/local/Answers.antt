-- The strengths that are found in the numbers are lent on; a list in numbers lists its facts.
use Rattle.ledger.proofs.ListNumbers.{sound_facts}
use Rattle.judging.proofs.ByNumbers.{yields_in_numbers}
use Rattle.judging.proofs.numbers.local.Goals as goal

pub returns-clause-listed : goal.returns-clause-listed
returns-clause-listed c =
    λ state buffer list ps Γ i e s strong.
    c.local.ensures state buffer list ps Γ i e s (c.of_numbers-found.ensures.taken ps strong _ c.as_ref.ensures.value)

pub returns-clause-counted : goal.returns-clause-counted
returns-clause-counted c =
    λ state buffer list count ps Γ i e s strong assumed few at inside.
    yields_in_numbers state buffer _ _ e _ count list s.room
    (c.local.ensures state buffer _ ps Γ i e (sound_facts list _ s) (c.of_numbers-found.ensures.taken ps strong _ c.as_ref.ensures.value) assumed few at inside)
