-- A list of facts in numbers is asked as the list that is taken from them, and put back; what yields a judgement by the one yields it by the
-- other, and so 23, 24 and 27 go on by both.
use Prim.Native.Nat.{ℕ, ◌+◌, ◌*◌, min}
use mathlib.Core.Path.{◌≡◌, refl, ap, ◌∙◌}
use mathlib.Core.List.{List, [], ◌∷◌}
use mathlib.Core.Logic.{if_pos}
use native.Mathlib.Decide.{ℕ_discrete}
use native.Mathlib.Omega.{arith}
use lib.ListN.{length}
use Rattle.procap.specs.Procaps.{most_facts}
use Rattle.procap.specs.declared.fact.Fact.{Fact}
use Rattle.bl.specs.Questions.{Walk}
use Rattle.bl.specs.Walk as walk
use Rattle.ledger.specs.declared.numbers.Counted.{Counted}
use Rattle.ledger.specs.Books as books
use Rattle.ledger.specs.Numbers.{fact_numbers, list_numbers, numbers_of_fact, facts_listed, put_from, with_facts, Book, counted, book, Sound, Gives}
use Rattle.ledger.proofs.ListNumbers.{stored_length, sound_facts, gives_numbers, gives_facts}
use Rattle.judging.specs.declared.judge.Inferred.{Inferred}
use Rattle.judging.specs.Judging.{and_then, Yields as ListYields}
use Rattle.judging.specs.StepPromises.{Continues}
use Rattle.judging.specs.Numbers.{Yields, ContinuesInNumbers}

-- The book of the facts that the numbers list.
abbrev pub facts_of : Book → books.Book
facts_of b = books.book b.counted.ledger (facts_listed b.list b.counted.count)

-- Facts that are put into numbers leave as many numbers.
put_length : (fs : List Fact) (numbers : List ℕ) (i : ℕ) → length (put_from numbers i fs) ≡ length numbers
unfolding put_from
put_length [] numbers i = refl
put_length (f ∷ fs) numbers i = put_length fs _ (i + 1) ∙ stored_length (numbers_of_fact f) numbers (i * fact_numbers)

with_length : (numbers : List ℕ) (fs : List Fact) → length numbers ≡ list_numbers → length (with_facts numbers fs) ≡ list_numbers
unfolding with_facts
with_length numbers fs room = ap length (if_pos (ℕ_discrete (length numbers) list_numbers) room (put_from numbers 0 fs) numbers) ∙ put_length fs numbers 0 ∙ room

-- The list that is taken from the numbers of a sound book has its facts.
module _ (numbers : List ℕ) (c : Counted) (list : List Fact) (taken : list ≡ facts_listed numbers (min most_facts c.count)) (s : Sound (book c numbers)) where
  same_list : list ≡ facts_listed numbers c.count
  same_list =
      let few : min most_facts c.count ≡ c.count = omega (arith, s.few) in
      taken ∙ ap (facts_listed numbers) few

  pub sound_list : books.Sound (books.book c.ledger list)
  sound_list = rw same_list (sound_facts numbers c s)

  -- So a walk that leads from that list to another leads from its numbers to those that the other is put into.
  pub led_in_numbers : {A : Type 0} (state more : List ℕ) (list' : List Fact) (d : Counted) (w : Walk A) (a : A)
      → (length numbers ≡ list_numbers → facts_listed more (length list') ≡ list') → more ≡ with_facts numbers list' → d.count ≡ length list'
      → books.Gives state (books.book c.ledger list) w (books.book d.ledger list') a
      → Gives state (book c numbers) w (book d more) a
  led_in_numbers state more list' d w a reads left counted g =
      gives_numbers state numbers more c d w a (ap length left ∙ with_length numbers list' s.room)
      (rw (← same_list, ap (facts_listed more) counted ∙ reads s.room) g)

-- A walk that yields a judgement by the facts of a book yields it by the numbers, and back.
module _ (state buffer : List ℕ) (b : Book) (w : Walk walk.Judgement) (e : ℕ) (r : Inferred) (count : ℕ) (list : List ℕ) where
  -- The same by the facts that are listed.
  abbrev pub YieldsByFacts : Type 0
  YieldsByFacts = ListYields state buffer (facts_of b) w e r (facts_listed list count)

  pub yields_in_numbers : length list ≡ list_numbers → YieldsByFacts → Yields state buffer b w e r count list
  yields_in_numbers room y = record {
    formula = y.formula;
    from = y.from;
    to = y.to;
    gives = gives_numbers state b.list list b.counted (counted r.ledger count) w (y.formula, y.from, y.to) room y.gives;
    on = y.on;
    ends = y.ends;
  }

  pub yields_by_facts : Yields state buffer b w e r count list → YieldsByFacts
  yields_by_facts y = record {
    formula = y.formula;
    from = y.from;
    to = y.to;
    gives = gives_facts state b.list list b.counted (counted r.ledger count) w (y.formula, y.from, y.to) y.gives;
    on = y.on;
    ends = y.ends;
  }

-- So what goes on from a judgement by the facts goes on from it by the numbers.
pub continues_in_numbers : (buffer : List ℕ) (inferred : Inferred) (g : walk.Judgement → Walk walk.Judgement) (r : Inferred) → Continues buffer inferred g r
    → ContinuesInNumbers buffer inferred g r
continues_in_numbers buffer inferred g r goes_on state b w e count list y =
    yields_in_numbers state buffer b (and_then w g) e r count list y.gives.sound.room
    (goes_on state (facts_of b) w e (facts_listed list count) (yields_by_facts state buffer b w e inferred count list y))
