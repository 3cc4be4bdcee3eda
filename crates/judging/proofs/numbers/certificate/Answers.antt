-- The strengths that are found in the numbers are lent on; a list in numbers lists its facts.
use Rattle.ledger.proofs.ListNumbers.{sound_facts}
use Rattle.judging.proofs.ByNumbers.{yields_in_numbers}
use Rattle.judging.proofs.numbers.certificate.Goals as goal

pub returns-clause-listed : goal.returns-clause-listed
returns-clause-listed c =
    λ state buffer list ps cs i e s strong.
    c.certificate.ensures state buffer list ps cs i e s (c.of_numbers-found.ensures.taken ps strong _ c.as_ref.ensures.value)

pub returns-clause-counted : goal.returns-clause-counted
returns-clause-counted c =
    λ state buffer list count ps cs i e s strong certified at inside.
    yields_in_numbers state buffer _ _ e _ count list s.room
    (c.certificate.ensures state buffer _ ps cs i e (sound_facts list _ s) (c.of_numbers-found.ensures.taken ps strong _ c.as_ref.ensures.value) certified at inside)
