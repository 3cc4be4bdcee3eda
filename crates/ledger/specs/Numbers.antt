-- The list of facts as plain numbers that a caller lends, beside a ledger and a count: what stands in them, and what the questions leave of them.
use Rattle.std.specs.Prelude.{ℕ, zero, suc, ◌+◌, ◌-◌, ◌*◌, ◌%◌, ◌≤◌, ◌<◌, min, ◌≡◌, List, [], ◌∷◌, ◌++◌, length, get_or}
use Rattle.std.proofs.Math.Logic.{ite}
use Rattle.std.proofs.Math.Logic.Dec
use Rattle.std.proofs.Math.Decide.{ℕ_discrete, dec_lt}
use Rattle.std.proofs.lemmas.List.Edits.{sets}
use Rattle.procap.specs.Lists.{pad}
use Rattle.procap.specs.Lent.{Lent, LentToWrite}
use Rattle.procap.specs.Deciding.{in?, spelled?, holds_at?}
use Rattle.procap.specs.Facts.{Spelled, spelled, fact_of, no_fact, most_terms}
use Rattle.procap.specs.Numbered.{of_numbers, kind_of, value_of}
use Rattle.procap.specs.Procaps.{most_facts, version_one}
use Rattle.procap.specs.States.{stated}
use Rattle.procap.specs.Outcome.{Outcome}
use Rattle.procap.specs.declared.answer.Answer.TheVariants.{FactMissing}
use Rattle.procap.specs.declared.fact.Argument.{Argument}
use Rattle.procap.specs.declared.fact.Fact.{Fact}
use Rattle.procap.specs.declared.procap.Request.{Request}
use Rattle.procap.specs.declared.procap.Procap.{Procap}
use Rattle.bl.specs.Questions.{Walk, done, asks, ask_fact}
use Rattle.bl.specs.Readings.{Kept, run}
use Rattle.ledger.specs.declared.Ledger.{Ledger}
use Rattle.ledger.specs.declared.numbers.Counted.{Counted}
use Rattle.ledger.specs.Books.{GoesOn, stop_of, reading_in, reading_of, stopped_by, facts_said, unless_stopped}
use Rattle.ledger.specs.Asking.{asked_by}

-- How many numbers a listed fact takes: its predicate, its count, and two for each of four terms.
abbrev pub fact_numbers : ℕ
fact_numbers = 10

-- How many the whole list takes.
abbrev pub list_numbers : ℕ
list_numbers = 160

-- The term that two numbers of the list stand for.
abbrev pub argument_in : List ℕ → ℕ → Argument
argument_in list at = record { term = of_numbers (get_or list at 0) (get_or list (at + 1) 0) }

-- The fact at an index of the list.
unfoldable pub fact_in : List ℕ → ℕ → Fact
fact_in list i =
    let start = i * fact_numbers in
    record {
      predicate = get_or list start 0 % 65536;
      count = get_or list (start + 1) 0;
      arguments = argument_in list (start + 2) ∷ argument_in list (start + 4) ∷ argument_in list (start + 6) ∷ argument_in list (start + 8) ∷ [];
    }

-- The first facts of the list, as they stand there.
unfoldable pub facts_listed : List ℕ → ℕ → List Fact
facts_listed list zero = []
facts_listed list (suc n) = facts_listed list n ++ (fact_in list n ∷ [])

-- The same, as they are spelled.
unfoldable pub facts_in : List ℕ → ℕ → List Spelled
facts_in list zero = []
facts_in list (suc n) = facts_in list n ++ (spelled (fact_in list n) ∷ [])

-- The numbers that terms are put as: two each.
unfoldable pub argument_numbers : List Argument → List ℕ
argument_numbers [] = []
argument_numbers (x ∷ xs) = kind_of x.term ∷ value_of x.term ∷ argument_numbers xs

-- The numbers that a fact is put as: its predicate, its count, and those of its terms, its zeros too.
abbrev pub numbers_of_fact : Fact → List ℕ
numbers_of_fact f = f.predicate ∷ f.count ∷ argument_numbers f.arguments

-- The numbers after facts are put at an index of the list, one after the other.
unfoldable pub put_from : List ℕ → ℕ → List Fact → List ℕ
put_from list i [] = list
put_from list i (f ∷ fs) = put_from (sets list (i * fact_numbers) (numbers_of_fact f)) (i + 1) fs

-- The numbers after facts are put at the front of a list's; of another length they stay.
unfoldable pub with_facts : List ℕ → List Fact → List ℕ
with_facts list fs = ite (ℕ_discrete (length list) list_numbers) (put_from list 0 fs) list

-- The ledger with its count, and the numbers of the list beside it.
pub record Book : Type 0 where
  pub counted : Counted
  pub list : List ℕ

-- A ledger, and how many facts are listed beside it.
abbrev pub counted : Ledger → ℕ → Counted
counted l n = record { ledger = l; count = n }

abbrev pub book : Counted → List ℕ → Book
book c list = record { counted = c; list = list }

-- What a book keeps.
unfoldable pub kept_of : Book → Kept
kept_of b = record { from = b.counted.ledger.from; to = b.counted.ledger.to; facts = facts_in b.list b.counted.count }

-- A book has room for all facts, lists no more, and has zeros past the terms of each.
pub record Sound (b : Book) : Type 0 where
  pub room : length b.list ≡ list_numbers
  pub few : b.counted.count ≤ most_facts
  pub in_form : (i : ℕ) → i < b.counted.count → fact_in b.list i ≡ fact_of (spelled (fact_in b.list i))

-- A walk read on from a book.
unfoldable pub resume : {A : Type 0} → List ℕ → Book → Walk A → Outcome (A × Kept)
resume state b w = unless_stopped (stop_of b.counted.ledger) (run (reading_of state (reading_in b.counted.ledger)) w (kept_of b))

-- While the walk w goes on from the book b, the facts listed and those that it still asks for are at most 16.
abbrev pub HasRoom : {A : Type 0} → Book → Walk A → Type 0
HasRoom b w = GoesOn b.counted.ledger → b.counted.count + asks w ≤ most_facts

-- The work of the walk w, from the book b, led to the book b' and the value a: with room for its facts, what is left to read is what was to be read.
pub record Gives {A : Type 0} (state : List ℕ) (b : Book) (w : Walk A) (b' : Book) (a : A) : Type 0 where
  pub same_reading : reading_in b'.counted.ledger ≡ reading_in b.counted.ledger
  pub sound : Sound b'
  pub resumed : HasRoom b w → resume state b' (done a) ≡ resume state b w

-- The book after the office is asked for a fact, which goes to the end of the list, unless it stands there or there is no room for it.
unfoldable pub fact_listed : List ℕ → Counted → Fact → Book
fact_listed list c f =
    ite (Dec.and (ℕ_discrete (length list) list_numbers) (dec_lt c.count most_facts))
    (ite (in? spelled? (spelled f) (facts_in list c.count))
    (book c list)
    (book (counted c.ledger (c.count + 1)) (sets list (c.count * fact_numbers) (numbers_of_fact f))))
    (book c list)

-- The book after the question of a fact: listed at the office; at a press as it was where the fact holds, and else stopped by 10.
unfoldable pub fact_asked : List ℕ → List ℕ → Counted → ℕ → Fact → Book
fact_asked state list c q f =
    asked_by c.ledger (book c list) (fact_listed list c f)
    (ite (holds_at? (c.ledger.press - 1) (facts_said (stated state)) (spelled f))
    (book c list)
    (book (counted (stopped_by (FactMissing q) c.ledger) c.count) list))

-- The call leads where the question of the fact does, for a fact of few terms with zeros past them.
abbrev pub AsksFact : Lent → LentToWrite → Counted → ℕ → Fact → Counted → Type 0
AsksFact state facts c offset f r =
    Sound (book c facts.entry.now) → f ≡ fact_of (spelled f) → f.count ≤ most_terms
    → Gives state.entry.now (book c facts.entry.now) (ask_fact offset (spelled f)) (book r facts.exit.now) tt

-- The procap for a request of a ledger and its list: as many facts as are counted, at most 16, and no facts past them.
abbrev pub held_procap : Request → Counted → List ℕ → Procap
held_procap request c list = record {
  version = version_one;
  request = request;
  from = c.ledger.from;
  to = c.ledger.to;
  count = c.count;
  facts = pad most_facts no_fact (facts_listed list (min most_facts c.count));
}
