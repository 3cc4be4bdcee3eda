-- A walk that begins with any list in numbers and the count 0: no fact is listed, so the book is sound, has room for what the walk of a proof
-- that reads asks for, and is read on as from what verify starts with.
use Prim.Native.Nat.{ℕ, ◌+◌, ◌-◌, ◌≤◌}
use native.Mathlib.Omega.{arith}
use mathlib.Core.Path.{◌≡◌, refl}
use mathlib.Core.List.{List}
use Rattle.std.specs.Prelude.{Some}
use borrow.Author.Tests.{le-leb}
use lib.ListN.{length}
use Rattle.procap.specs.Times.{latest}
use Rattle.procap.specs.States.{stated}
use Rattle.procap.specs.declared.procap.Request.{Request}
use Rattle.bl.specs.Trees.{Check}
use Rattle.bl.specs.Policy.{Policy}
use Rattle.bl.specs.Steps.{proof_in}
use Rattle.bl.specs.Walk.{walk}
use Rattle.bl.specs.Questions.{Walk}
use Rattle.bl.specs.Readings.{start, office, press, run}
use Rattle.bl.proofs.FactsCounted.{at_most_16_asked}
use Rattle.ledger.specs.declared.Reading.{Reading}
use Rattle.ledger.specs.declared.Reading.TheVariants.{Office, Press}
use Rattle.ledger.specs.Books.{begun, stop_by, reading_by, facts_said, reading_of, unless_stopped}
use Rattle.ledger.specs.Numbers.{Book, counted, book, list_numbers, facts_in, kept_of, Sound, HasRoom, resume}
use Rattle.ledger.proofs.Stopping.{at_press}

-- The book at the start.
abbrev pub begun_by : Reading → List ℕ → Book
begun_by reading list = book (counted (begun reading) 0) list

pub sound_by_numbers : (reading : Reading) (list : List ℕ) → length list ≡ list_numbers → Sound (begun_by reading list)
sound_by_numbers reading list room = record { room = room; few = omega arith; in_form = λ i h. absurd (omega arith) }

pub room_by_numbers : (reading : Reading) (list proof : List ℕ) (r : Request) (π : Policy) (N : Check) → proof_in (length π.statements) proof ≡ Some N
    → HasRoom (begun_by reading list) (walk r π N)
room_by_numbers reading list proof r π N reads _ = omega (arith, at_most_16_asked r π (length π.statements) proof N reads)

module _ {A : Type 0} (state list : List ℕ) (w : Walk A) where
  pub office_by_numbers : resume state (begun_by Office list) w ≡ run office w start
  unfolding resume unless_stopped kept_of facts_in begun stop_by reading_by reading_of
  office_by_numbers = refl

  pub press_by_numbers : (m : ℕ) → m ≤ latest → resume state (begun_by (Press m) list) w ≡ run (press m (facts_said (stated state))) w start
  unfolding resume unless_stopped kept_of facts_in begun stop_by reading_by reading_of
  press_by_numbers m on_clock =
      let same : m + 1 - 1 ≡ m = omega arith in
      rw (le-leb m latest on_clock, at_press (m + 1) (λ e. omega arith), same)
