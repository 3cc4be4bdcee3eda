-- The fact of the line is none of those on the lines passed.
use Rattle.std.proofs.Common.{ℕ, ◌<◌, get_or}
use Rattle.text.proofs.OnLines.{Differ}
use Rattle.text.proofs.fact_places.stood_before.Given as goal

abbrev pub invariant-loop-place : goal.invariant-loop-place
invariant-loop-place l = (k : ℕ) → k < l.place-index → Differ l.text l.at l.end (get_or l.places k 0)
