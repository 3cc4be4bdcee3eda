-- What was found is what is handed back.
use Rattle.formula.proofs.PartsRead.{place_given, end_given}
use Rattle.formula.proofs.parts.place_at.Goals as goal

pub returns-clause-place : goal.returns-clause-place
returns-clause-place c = rw c.unwrap_or-place.ensures (place_given _ _ _ _ _ c.place_if_any.ensures _)

pub returns-clause-next : goal.returns-clause-next
returns-clause-next c = rw c.unwrap_or-place.ensures (end_given _ _ _ _ _ c.place_if_any.ensures _)
