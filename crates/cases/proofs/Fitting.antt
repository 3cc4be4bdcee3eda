-- What is given of a text is never longer than the room for it.
use Prim.Native.Nat.{ℕ, ◌≤◌}
use mathlib.Core.List.{List}
use native.Mathlib.Decide.{dec_le}
use native.Mathlib.Omega.{arith}
use lib.ListN.{length}
use Rattle.text.specs.Calls.{fitting, length_given}
use Rattle.text.proofs.Written.{too_long, fits}
use Rattle.cases.specs.Calls.{printed, answering}

-- The length that is given is within the room.
given_within : (text : List ℕ) (room : ℕ) → length_given (fitting text room) ≤ room
unfolding length_given
given_within text room =
    elim (dec_le (length text) room) [
      | yes l ↦ rw (fits text room l) l
      | no n ↦ rw (too_long text room (omega arith)) (omega arith)
    ]

-- And so it is of what is printed for an input.
pub answered_within : (input : List ℕ) (room : ℕ) → length_given (answering input room) ≤ room
unfolding answering
answered_within input room = given_within (printed input) room
