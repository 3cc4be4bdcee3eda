-- A turn opens the newest of what waits, and its parts take its place; what the whole reads as is what is left to be read, from what was found so far.
-- The stack has room by the levels; a turn reads a byte, or opens a second part of which the next turn reads one.
use mathlib.Core.Path.{◌≡◌}
use lib.ListN.{length}
use Rattle.steps.proofs.TodoStack.{turns}
use Rattle.steps.proofs.FormLoop.{SoFar}
use Rattle.steps.proofs.form.well_formed.Given as goal

abbrev pub invariant-loop-todo : goal.invariant-loop-todo
invariant-loop-todo l =
    record {
      ends : length l.ends ≡ length l.initial.ends;
      so : SoFar l.source.proof.now l.source.certificates l.initial.ends l.ends l.waiting l.place l.states;
    }

abbrev pub decreases-loop-todo : goal.decreases-loop-todo
decreases-loop-todo l = turns l.source.proof.now l.waiting l.place
