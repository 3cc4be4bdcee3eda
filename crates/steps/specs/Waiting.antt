-- What waits to be read of a proof, as the code keeps it.
use Rattle.std.specs.Prelude.{ℕ, zero, suc, ◌+◌, List, [], ◌∷◌, get_or, None, Option, Some}
use Rattle.bl.specs.Steps.{most_proof_levels}
use Rattle.steps.specs.declared.todo.Todo.{Todo}
use Rattle.steps.specs.declared.todo.Todo.TheVariants.{Times}

-- How many things may wait: at most one for each level, and one more.
abbrev pub most_waiting : ℕ
most_waiting = most_proof_levels + 1

-- So many things, the newest last, as a list with the newest first.
unfoldable pub newest_first : List Todo → ℕ → List Todo
newest_first things zero = []
newest_first things (suc n) = get_or things n (Times 0) ∷ newest_first things n

-- The newest, and the others.
abbrev pub popped : List Todo → Option Todo × List Todo
popped [] = (None, [])
popped (t ∷ ts) = (Some t, ts)
