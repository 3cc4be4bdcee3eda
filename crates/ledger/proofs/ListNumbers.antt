-- The list of facts as numbers: what stands in them, what is put into them, and that walks lead over them as over the list of those facts.
use Prim.Native.Nat.{ℕ, zero, suc, ◌+◌, ◌*◌, ◌%◌, ◌≤◌, ◌<◌}
use mathlib.Core.Path.{◌≡◌, refl, sym, ap, ap₂, subst, ◌∙◌}
use mathlib.Core.Logic.{if_pos}
use mathlib.Core.List.{List, [], ◌∷◌, ◌++◌, map, map-append}
use native.Mathlib.Decide.{ℕ_discrete}
use native.Mathlib.Nat.{mod-eq_of_lt}
use native.Mathlib.Numerals.{add-one}
use native.Mathlib.Omega.{arith}
use lib.ListN.{length, get_or, set, take, length-append, length-set, get_or-map}
use lib.Seq.{sets, get_or-set_same, get_or-set_other}
use Rattle.std.proofs.lemmas.List.{get_or_append_left, get_or_at, length-take-le, take_more}
use Rattle.procap.specs.Facts.{spelled, fact_of, argument_of, no_fact}
use Rattle.procap.specs.Numbered.{of_numbers, kind_of, value_of}
use Rattle.procap.specs.declared.fact.Argument.{Argument}
use Rattle.procap.specs.declared.fact.Fact.{Fact}
use Rattle.procap.specs.declared.fact.Term.{Term}
use Rattle.bl.specs.Questions.{Walk, done}
use Rattle.bl.specs.Readings.{run}
use Rattle.ledger.specs.declared.Ledger.{Ledger}
use Rattle.ledger.specs.declared.numbers.Counted.{Counted}
use Rattle.ledger.specs.Books.{stop_of, reading_in, reading_of, unless_stopped, book as list_book, kept_of as list_kept, Sound as ListSound, resume as list_resume, Gives as ListGives}
use Rattle.ledger.specs.Numbers.{fact_numbers, list_numbers, argument_in, fact_in, facts_listed, facts_in, argument_numbers, numbers_of_fact, put_from, with_facts, counted, book, kept_of, Sound, resume, Gives}

-- ── What stands in the numbers ──

-- As many facts as are counted, and one more after them.
pub listed_counted : (list : List ℕ) (n : ℕ) → length (facts_listed list n) ≡ n
unfolding facts_listed
listed_counted list zero = refl
listed_counted list (suc n) = rw length-append (omega (arith, listed_counted list n))

pub one_listed_more : (list : List ℕ) (n : ℕ) → facts_listed list (n + 1) ≡ facts_listed list n ++ (fact_in list n ∷ [])
unfolding facts_listed
one_listed_more list n = rw add-one

-- They are spelled as they stand there.
pub listed_spelled : (list : List ℕ) (n : ℕ) → facts_in list n ≡ map spelled (facts_listed list n)
unfolding facts_in facts_listed
listed_spelled list zero = refl
listed_spelled list (suc n) =
    ap (λ fs. fs ++ (spelled (fact_in list n) ∷ [])) (listed_spelled list n) ∙ sym (map-append spelled (facts_listed list n) (fact_in list n ∷ []))

-- At an index below the count stands the fact at that index.
listed_at : (list : List ℕ) (n i : ℕ) (d : Fact) → i < n → get_or (facts_listed list n) i d ≡ fact_in list i
unfolding facts_listed
listed_at list zero i d l = absurd (omega arith)
listed_at list (suc n) i d l =
    let all = listed_counted list n in
    elim (ℕ_discrete i n) [
      | yes e ↦ get_or_at (facts_listed list n) (fact_in list n) [] d i (omega arith) ∙ ap (fact_in list) (sym e)
      | no ne ↦ get_or_append_left (facts_listed list n) (fact_in list n ∷ []) d i (omega arith) ∙ listed_at list n i d (omega arith)
    ]

-- ── What is put into them ──

-- Numbers that are stored at a place stand there, and those before it stay.
stored_before : (ns l : List ℕ) (at place : ℕ) → place < at → get_or (sets l at ns) place 0 ≡ get_or l place 0
stored_before [] l at place b = refl
stored_before (x ∷ xs) l at place b =
    stored_before xs (set l at x) (suc at) place (omega arith) ∙ get_or-set_other l at place x 0 (λ e. omega arith)

stored_there : (ns l : List ℕ) (at place k : ℕ) → at + length ns ≤ length l → k < length ns → place ≡ at + k → get_or (sets l at ns) place 0 ≡ get_or ns k 0
stored_there [] l at place k room b e = absurd (omega arith)
stored_there (x ∷ xs) l at place zero room b e =
    stored_before xs (set l at x) (suc at) place (omega arith)
    ∙ ap (λ p. get_or (set l at x) p 0) (let same : place ≡ at = omega arith in same)
    ∙ get_or-set_same l at x 0 (omega arith)
stored_there (x ∷ xs) l at place (suc k) room b e =
    stored_there xs (set l at x) (suc at) place k (simp length-set (omega arith)) (omega arith) (omega arith)

pub stored_length : (ns l : List ℕ) (at : ℕ) → length (sets l at ns) ≡ length l
stored_length [] l at = refl
stored_length (x ∷ xs) l at = stored_length xs (set l at x) (suc at) ∙ length-set l at x

-- Where the numbers are the same, so is the fact.
module _ (l m : List ℕ) (i j : ℕ) (same : (p q k : ℕ) → p ≡ i * fact_numbers + k → q ≡ j * fact_numbers + k → k < fact_numbers → get_or l p 0 ≡ get_or m q 0) where
  same_argument : (p q k : ℕ) → p ≡ i * fact_numbers + k → q ≡ j * fact_numbers + k → k + 1 < fact_numbers → argument_in l p ≡ argument_in m q
  same_argument p q k e f h =
      ap₂ (λ kind value. argument_of (of_numbers kind value))
      (same p q k e f (omega arith))
      (same (p + 1) (q + 1) (k + 1) (omega arith) (omega arith) h)

  same_fact : fact_in l i ≡ fact_in m j
  unfolding fact_in
  same_fact =
      let p = i * fact_numbers in
      let q = j * fact_numbers in
      λ x. record {
        predicate = same p q 0 (omega arith) (omega arith) (omega arith) x % 65536;
        count = same (p + 1) (q + 1) 1 (omega arith) (omega arith) (omega arith) x;
        arguments =
            same_argument (p + 2) (q + 2) 2 (omega arith) (omega arith) (omega arith) x
            ∷ same_argument (p + 4) (q + 4) 4 (omega arith) (omega arith) (omega arith) x
            ∷ same_argument (p + 6) (q + 6) 6 (omega arith) (omega arith) (omega arith) x
            ∷ same_argument (p + 8) (q + 8) 8 (omega arith) (omega arith) (omega arith) x
            ∷ [];
      }

-- What is stored at an index is the fact that it is by itself, and the facts before it stay.
module _ (l ns : List ℕ) (i : ℕ) where
  pub fact_stored : length ns ≡ fact_numbers → i * fact_numbers + fact_numbers ≤ length l → fact_in (sets l (i * fact_numbers) ns) i ≡ fact_in ns 0
  fact_stored all room =
      same_fact (sets l (i * fact_numbers) ns) ns i 0 (λ p q k e f b.
      let own : q ≡ k = omega arith in
      stored_there ns l (i * fact_numbers) p k (omega arith) (omega arith) e ∙ ap (λ at. get_or ns at 0) (sym own))

  facts_before : (n : ℕ) → n ≤ i → facts_listed (sets l (i * fact_numbers) ns) n ≡ facts_listed l n
  unfolding facts_listed
  facts_before zero h = refl
  facts_before (suc n) h =
      ap₂ (λ fs f. fs ++ (f ∷ []))
      (facts_before n (omega arith))
      (same_fact (sets l (i * fact_numbers) ns) l n n (λ p q k e f b.
      let both : p ≡ q = omega arith in
      stored_before ns l (i * fact_numbers) p (omega arith) ∙ ap (λ at. get_or l at 0) both))

  -- One fact more is listed.
  pub fact_more : (f : Fact) → fact_in (sets l (i * fact_numbers) ns) i ≡ f
      → facts_listed (sets l (i * fact_numbers) ns) (i + 1) ≡ facts_listed l i ++ (f ∷ [])
  fact_more f put = one_listed_more (sets l (i * fact_numbers) ns) i ∙ ap₂ (λ fs g. fs ++ (g ∷ [])) (facts_before i (omega arith)) put

-- A list of four.
four : {A : Type 0} (d e g h : A) (xs : List A) → length xs ≡ 4 → xs ≡ get_or xs 0 d ∷ get_or xs 1 e ∷ get_or xs 2 g ∷ get_or xs 3 h ∷ []
four d e g h [] all = absurd (omega arith)
four d e g h (x ∷ []) all = absurd (omega arith)
four d e g h (x ∷ y ∷ []) all = absurd (omega arith)
four d e g h (x ∷ y ∷ z ∷ []) all = absurd (omega arith)
four d e g h (x ∷ y ∷ z ∷ w ∷ []) all = refl
four d e g h (x ∷ y ∷ z ∷ w ∷ v ∷ vs) all = absurd (omega arith)

-- The two numbers of a term stand for it.
abbrev StandFor : Term → Type 0
StandFor t = of_numbers (kind_of t) (value_of t) ≡ t

module _ (f : Fact) (d e g h : Argument) (all : length f.arguments ≡ 4) where
  -- The terms of a fact.
  abbrev first : Term
  first = (get_or f.arguments 0 d).term

  abbrev second : Term
  second = (get_or f.arguments 1 e).term

  abbrev third : Term
  third = (get_or f.arguments 2 g).term

  abbrev fourth : Term
  fourth = (get_or f.arguments 3 h).term

  -- Its numbers, written out,
  abbrev numbers : List ℕ
  numbers =
      f.predicate ∷ f.count
      ∷ kind_of first ∷ value_of first
      ∷ kind_of second ∷ value_of second
      ∷ kind_of third ∷ value_of third
      ∷ kind_of fourth ∷ value_of fourth
      ∷ []

  -- are those that it is put as,
  pub written_out : numbers ≡ numbers_of_fact f
  unfolding argument_numbers
  written_out = ap (λ xs. f.predicate ∷ f.count ∷ argument_numbers xs) (sym (four d e g h f.arguments all))

  -- and the fact again, where those of each term stand for it.
  pub read_back : f.predicate < 65536 → StandFor first → StandFor second → StandFor third → StandFor fourth → fact_in numbers 0 ≡ f
  unfolding fact_in
  read_back fits one two three last =
      let same : (fact_in numbers 0).arguments ≡ f.arguments =
      (λ x. argument_of (one x) ∷ argument_of (two x) ∷ argument_of (three x) ∷ argument_of (last x) ∷ []) ∙ sym (four d e g h f.arguments all) in
      λ x. record { predicate = mod-eq_of_lt fits x; count = f.count; arguments = same x }

-- Facts put one after the other: one more after all of them.
pub put_more : (l : List ℕ) (i : ℕ) (fs : List Fact) (f : Fact) (n : ℕ) → n ≡ i + length fs
    → put_from l i (fs ++ (f ∷ [])) ≡ sets (put_from l i fs) (n * fact_numbers) (numbers_of_fact f)
unfolding put_from
put_more l i [] f n e = let same : i ≡ n = omega arith in ap (λ k. sets l (k * fact_numbers) (numbers_of_fact f)) same
put_more l i (g ∷ fs) f n e = put_more (sets l (i * fact_numbers) (numbers_of_fact g)) (i + 1) fs f n (omega arith)

-- The first n facts are put, and read back.
pub record PutSoFar (before after : List ℕ) (fs : List Fact) (n : ℕ) : Type 0 where
  pub stored : after ≡ put_from before 0 (take n fs)
  pub reads : facts_listed after n ≡ take n fs

pub none_yet : (l : List ℕ) (fs : List Fact) → PutSoFar l l fs 0
unfolding put_from facts_listed
none_yet l fs = record { stored = refl; reads = refl }

module _ {before after : List ℕ} {fs : List Fact} {n : ℕ} (h : PutSoFar before after fs n) where
  pub one_more : (more : List ℕ) (d : Fact) → n < length fs → more ≡ sets after (n * fact_numbers) (numbers_of_fact (get_or fs n d))
      → fact_in more n ≡ get_or fs n d → PutSoFar before more fs (n + 1)
  one_more more d inside stored put =
      let counted = length-take-le n fs (omega arith) in
      let f = get_or fs n d in
      let next = take_more fs n d inside in
      record {
        stored =
            stored
            ∙ ap (λ l. sets l (n * fact_numbers) (numbers_of_fact f)) h.stored
            ∙ sym (put_more before 0 (take n fs) f n (omega (arith, counted)))
            ∙ ap (put_from before 0) (sym next);
        reads =
            ap (λ l. facts_listed l (n + 1)) stored
            ∙ fact_more after (numbers_of_fact f) n f (subst (λ l. fact_in l n ≡ f) stored put)
            ∙ ap (λ gs. gs ++ (f ∷ [])) h.reads
            ∙ sym next;
      }

  -- In the end all are.
  module _ (count : ℕ) (list : List Fact) (end : n ≡ count) (is : take count fs ≡ list) where
    pub all_read : length (take count fs) ≡ count → facts_listed after (length list) ≡ list
    all_read counted = ap (facts_listed after) (sym (ap length is) ∙ counted ∙ sym end) ∙ h.reads ∙ ap (λ k. take k fs) end ∙ is

    pub all_stored : length before ≡ list_numbers → after ≡ with_facts before list
    unfolding with_facts
    all_stored room =
        h.stored
        ∙ ap (put_from before 0) (ap (λ k. take k fs) end ∙ is)
        ∙ sym (if_pos (ℕ_discrete (length before) list_numbers) room (put_from before 0 list) before)

-- ── Walks over the numbers, and over the list of the facts ──

-- The facts are in form one by one, or as a list.
all_in_form : (list : List ℕ) (n : ℕ) → ((i : ℕ) → i < n → fact_in list i ≡ fact_of (spelled (fact_in list i)))
    → facts_listed list n ≡ map fact_of (map spelled (facts_listed list n))
unfolding facts_listed
all_in_form list zero h = refl
all_in_form list (suc n) h =
    ap₂ (λ fs g. fs ++ (g ∷ [])) (all_in_form list n (λ i b. h i (omega arith))) (h n (omega arith))
    ∙ sym
    (ap (map fact_of) (map-append spelled (facts_listed list n) (fact_in list n ∷ []))
    ∙ map-append fact_of (map spelled (facts_listed list n)) (spelled (fact_in list n) ∷ []))

each_in_form : (list : List ℕ) (n i : ℕ) → i < n → facts_listed list n ≡ map fact_of (map spelled (facts_listed list n))
    → fact_in list i ≡ fact_of (spelled (fact_in list i))
each_in_form list n i b form =
    sym (listed_at list n i (fact_of (spelled no_fact)) b)
    ∙ ap (λ fs. get_or fs i (fact_of (spelled no_fact))) form
    ∙ get_or-map fact_of (map spelled (facts_listed list n)) i (spelled no_fact)
    ∙ ap fact_of (get_or-map spelled (facts_listed list n) i no_fact)
    ∙ ap (λ f. fact_of (spelled f)) (listed_at list n i no_fact b)

module _ (list : List ℕ) (c : Counted) where
  -- A sound book of numbers is a sound book of its facts, and the other way where there are 160.
  pub sound_facts : Sound (book c list) → ListSound (list_book c.ledger (facts_listed list c.count))
  sound_facts s = record { few = omega (arith, listed_counted list c.count, s.few); in_form = all_in_form list c.count s.in_form }

  pub sound_numbers : length list ≡ list_numbers → ListSound (list_book c.ledger (facts_listed list c.count)) → Sound (book c list)
  sound_numbers room s = record {
    room = room;
    few = omega (arith, listed_counted list c.count, s.few);
    in_form = λ i b. each_in_form list c.count i b s.in_form;
  }

  -- What is read on from the one is what is read on from the other.
  same_resumed : {A : Type 0} (state : List ℕ) (w : Walk A) → resume state (book c list) w ≡ list_resume state (list_book c.ledger (facts_listed list c.count)) w
  unfolding resume kept_of list_resume list_kept
  same_resumed state w =
      ap
      (λ fs. unless_stopped (stop_of c.ledger) (run (reading_of state (reading_in c.ledger)) w record { from = c.ledger.from; to = c.ledger.to; facts = fs }))
      (listed_spelled list c.count)

-- A walk that leads from the facts of the one book to those of the other leads from the one to the other, and the other way round.
module _ {A : Type 0} (state list more : List ℕ) (c d : Counted) (w : Walk A) (a : A) where
  pub gives_numbers : length more ≡ list_numbers → ListGives state (list_book c.ledger (facts_listed list c.count)) w (list_book d.ledger (facts_listed more d.count)) a
      → Gives state (book c list) w (book d more) a
  gives_numbers room g = record {
    same_reading = g.same_reading;
    sound = sound_numbers more d room g.sound;
    resumed = λ has_room.
        same_resumed more d state (done a)
        ∙ g.resumed (λ going. omega (arith, has_room going, listed_counted list c.count))
        ∙ sym (same_resumed list c state w);
  }

  pub gives_facts : Gives state (book c list) w (book d more) a → ListGives state (list_book c.ledger (facts_listed list c.count)) w (list_book d.ledger (facts_listed more d.count)) a
  gives_facts g = record {
    same_reading = g.same_reading;
    sound = sound_facts more d g.sound;
    resumed = λ has_room.
        sym (same_resumed more d state (done a))
        ∙ g.resumed (λ going. omega (arith, has_room going, listed_counted list c.count))
        ∙ same_resumed list c state w;
  }

-- A walk that leads from the one ledger to the other whatever is listed does so by every sound list in numbers.
pub leads_in_numbers : {A : Type 0} (state list : List ℕ) (count : ℕ) (l r : Ledger) (w : Walk A) (a : A) → Sound (book (counted l count) list)
    → ((facts : List Fact) → ListSound (list_book l facts) → ListGives state (list_book l facts) w (list_book r facts) a)
    → Gives state (book (counted l count) list) w (book (counted r count) list) a
leads_in_numbers state list count l r w a s leads =
    gives_numbers state list list (counted l count) (counted r count) w a s.room (leads (facts_listed list count) (sound_facts list (counted l count) s))
