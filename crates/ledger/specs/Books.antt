-- A walk that goes on from a ledger and the facts that are listed beside it.
use Rattle.std.specs.Prelude.{ℕ, ◌+◌, ◌-◌, ◌≤◌, ◌≡◌, List, [], length, map, leb, eqb, Err, None, Option, Some, Ok}
use Rattle.procap.specs.Tells.{pick}
use Rattle.procap.specs.Times.{earliest, latest}
use Rattle.procap.specs.Answers.{number_of, place_of, answer_with}
use Rattle.procap.specs.Facts.{Spelled, spelled, fact_of}
use Rattle.procap.specs.Procaps.{most_facts}
use Rattle.procap.specs.States.{stated}
use Rattle.procap.specs.Outcome.{Outcome}
use Rattle.procap.specs.declared.answer.Answer.{Answer}
use Rattle.procap.specs.declared.answer.Answer.TheVariants.{MomentAboveLatest, StepUnfit}
use Rattle.procap.specs.declared.fact.Fact.{Fact}
use Rattle.bl.specs.Questions.{Walk, done, asks, Test}
use Rattle.bl.specs.Readings as bl
use Rattle.bl.specs.Readings.{Kept, office, press, run}
use Rattle.ledger.specs.declared.Reading.{Reading}
use Rattle.ledger.specs.declared.Reading.TheVariants.{Office, Press}
use Rattle.ledger.specs.declared.Ledger.{Ledger}

-- The ledger, and the facts that are listed beside it.
pub record Book : Type 0 where
  pub ledger : Ledger
  pub list : List Fact

-- A ledger with every moment left, read at the office (0) or at a press (its moment plus one).
abbrev pub opened : ℕ → Ledger
opened n = record { number = 0; place = 0; press = n; from = earliest; to = latest }

-- The ledger stopped by an answer, unless it was before.
unfoldable pub stopped_by : Answer → Ledger → Ledger
stopped_by answer l =
    pick (eqb l.number 0)
    (record { number = number_of answer; place = place_of answer; press = l.press; from = l.from; to = l.to })
    l

-- The ledger at the start of a walk. Above the latest moment it has stopped by 11, with no press to read at.
unfoldable pub begun : Reading → Ledger
begun Office = opened 0
begun (Press m) = pick (leb m latest) (opened (m + 1)) (stopped_by MomentAboveLatest (opened 0))

-- Whether a walk goes on, or the answer that stopped it, by the answer's number and place; 0 while it goes on.
unfoldable pub stop_by : ℕ → ℕ → Outcome (Unit {0})
stop_by n p = pick (eqb n 0) (Ok tt) (Err (answer_with n p))

-- The same of a ledger.
abbrev pub stop_of : Ledger → Outcome (Unit {0})
stop_of l = stop_by l.number l.place

-- The walk has not stopped.
abbrev pub GoesOn : Ledger → Type 0
GoesOn l = stop_of l ≡ Ok tt

-- How a ledger's walk is read: 0 is the office, and any other number the moment after the press's.
unfoldable pub reading_by : ℕ → Reading
reading_by n = pick (eqb n 0) Office (Press (n - 1))

-- The same of a ledger.
abbrev pub reading_in : Ledger → Reading
reading_in l = reading_by l.press

-- The ledger with these moments left.
abbrev pub keeping : Ledger → ℕ → ℕ → Ledger
keeping l from to = record { number = l.number; place = l.place; press = l.press; from = from; to = to }

abbrev pub book : Ledger → List Fact → Book
book l list = record { ledger = l; list = list }

-- What a book keeps.
unfoldable pub kept_of : Book → Kept
kept_of b = record { from = b.ledger.from; to = b.ledger.to; facts = map spelled b.list }

-- A book lists no more facts than a procap holds, each with zeros past its terms.
pub record Sound (b : Book) : Type 0 where
  pub few : length b.list ≤ most_facts
  pub in_form : b.list ≡ map fact_of (map spelled b.list)

-- The facts that a state says; bytes that are no state say none.
unfoldable pub facts_said : Option (List Spelled) → List Spelled
facts_said None = []
facts_said (Some σ) = σ

-- How a walk is read, over the bytes of a state.
unfoldable pub reading_of : List ℕ → Reading → bl.Reading
reading_of state Office = office
reading_of state (Press m) = press m (facts_said (stated state))

-- Where a walk has stopped, its answer stays.
unfoldable pub unless_stopped : {A : Type 0} → Outcome (Unit {0}) → Outcome A → Outcome A
unless_stopped (Ok tt) o = o
unless_stopped (Err answer) o = Err answer

-- A walk read on from a book.
unfoldable pub resume : {A : Type 0} → List ℕ → Book → Walk A → Outcome (A × Kept)
resume state b w = unless_stopped (stop_of b.ledger) (run (reading_of state (reading_in b.ledger)) w (kept_of b))

-- While the walk w goes on from the book b, the facts listed and those that it still asks for are at most 16.
abbrev pub HasRoom : {A : Type 0} → Book → Walk A → Type 0
HasRoom b w = GoesOn b.ledger → length b.list + asks w ≤ most_facts

-- The work of the walk w, from the book b, led to the book b' and the value a: with room for its facts, what is left to read is what was to be read.
pub record Gives {A : Type 0} (state : List ℕ) (b : Book) (w : Walk A) (b' : Book) (a : A) : Type 0 where
  pub same_reading : reading_in b'.ledger ≡ reading_in b.ledger
  pub sound : Sound b'
  pub resumed : HasRoom b w → resume state b' (done a) ≡ resume state b w

-- The ledger after a step that does not fit.
abbrev pub misfitted : Ledger → ℕ → Ledger
misfitted l q = stopped_by (StepUnfit q) l

-- The walk w leads from the one ledger to the other, whatever is listed.
abbrev pub Leads : Ledger → Test → Ledger → Type 0
Leads l w r = (state : List ℕ) (list : List Fact) → Sound (book l list) → Gives state (book l list) w (book r list) tt
