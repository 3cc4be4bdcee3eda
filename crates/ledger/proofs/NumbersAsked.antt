-- What the question of a fact leaves of numbers, from what it leaves of the list of the facts that stand there.
use Prim.Native.Nat.{ℕ, ◌+◌, ◌*◌, ◌-◌, ◌≤◌, ◌<◌, min}
use mathlib.Core.Bool.{Bool, true, false}
use mathlib.Core.Path.{◌≡◌, refl, sym, ap, ap₂, subst, ◌∙◌}
use mathlib.Core.List.{List, [], ◌∷◌, ◌++◌, map}
use mathlib.Core.Logic.{ite, if_pos, if_neg, apply_ite, ◌⊎◌, inl, inr, ⊎_elim}
use mathlib.Core.Logic.Dec
use native.Mathlib.Decide.{ℕ_discrete, dec_lt}
use native.Mathlib.Omega.{arith}
use lib.ListN.{length, length-append}
use lib.Dec.{eqb}
use lib.Seq.{sets}
use Rattle.procap.specs.Lists.{In}
use Rattle.procap.specs.Tells.{pick}
use Rattle.procap.specs.Facts.{spelled}
use Rattle.procap.specs.Procaps.{most_facts}
use Rattle.procap.specs.States.{stated}
use Rattle.procap.specs.Deciding.{in?, spelled?, holds_at?}
use Rattle.procap.specs.declared.answer.Answer.TheVariants.{FactMissing}
use Rattle.procap.specs.declared.fact.Fact.{Fact}
use Rattle.bl.specs.Questions.{ask_fact}
use Rattle.ledger.specs.declared.Ledger.{Ledger}
use Rattle.ledger.specs.declared.numbers.Counted.{Counted}
use Rattle.ledger.specs.Books.{facts_said, stopped_by, Book as ListBook, book as list_book, Sound as ListSound, Gives as ListGives}
use Rattle.ledger.specs.Asking.{asked_by, fact_listed as listed_last, fact_asked as asked_of_list}
use Rattle.ledger.specs.Numbers.{fact_numbers, list_numbers, fact_in, facts_listed, facts_in, numbers_of_fact, Book, book, Sound, Gives, fact_listed, fact_asked}
use Rattle.ledger.proofs.Asking.{no_room}
use Rattle.ledger.proofs.Asked.{list_has, list_lacks}
use Rattle.ledger.proofs.ListNumbers.{listed_counted, listed_spelled, stored_length, fact_more, sound_facts, gives_numbers}

-- ── The cases of a question ──

-- What is made of what a question leaves is made of it in each case.
made_by : {A B : Type 0} (g : A → B) (l : Ledger) (was office press : A) → g (asked_by l was office press) ≡ asked_by l (g was) (g office) (g press)
unfolding asked_by
made_by {A} {B} g l was office press = by (eqb l.number 0) (eqb l.press 0)
  where
    by : (b d : Bool) → g (pick b (pick d office press) was) ≡ pick b (pick d (g office) (g press)) (g was)
    by false d = refl
    by true true = refl
    by true false = refl

asked_alike : {A : Type 0} (l : Ledger) {was office press was' office' press' : A} → was ≡ was' → office ≡ office' → press ≡ press'
    → asked_by l was office press ≡ asked_by l was' office' press'
asked_alike l w o p = λ i. asked_by l (w i) (o i) (p i)

-- What is so in each case is so of what is left.
in_each : {A : Type 0} (P : A → Type 0) (l : Ledger) (was office press : A) → P was → P office → P press → P (asked_by l was office press)
unfolding asked_by
in_each P l was office press w o p = by (eqb l.number 0) (eqb l.press 0)
  where
    by : (b d : Bool) → P (pick b (pick d office press) was)
    by false d = w
    by true true = o
    by true false = p

either_way : {A : Type 0} {Q : Type 0} (P : A → Type 0) (d : Dec Q) (x y : A) → P x → P y → P (ite d x y)
either_way P (yes q) x y p r = p
either_way P (no n) x y p r = r

-- The list stays, or has the fact at its end.
abbrev Grown : List Fact → Fact → List Fact → Type 0
Grown list f more = (more ≡ list) ⊎ (more ≡ list ++ (f ∷ []))

listed_grown : (list : List Fact) (f : Fact) → Grown list f (listed_last list f)
unfolding listed_last
listed_grown list f =
    either_way (Grown list f) (dec_lt (length list) most_facts) _ _
    (either_way (Grown list f) (in? spelled? (spelled f) (map spelled list)) _ _ (inl refl) (inr refl))
    (inl refl)

asked_grown : (state : List ℕ) (list : List Fact) (l : Ledger) (q : ℕ) (f : Fact) → Grown list f (asked_of_list state list l q f).list
unfolding asked_of_list
asked_grown state list l q f =
    in_each {A = ListBook} (λ b. Grown list f b.list) l _ _ _
    (inl refl)
    (listed_grown list f)
    (either_way {A = ListBook} (λ b. Grown list f b.list) (holds_at? (l.press - 1) (facts_said (stated state)) (spelled f)) _ _ (inl refl) (inl refl))

-- With room for it, one fact more keeps to the room.
few_listed : (list : List Fact) (f : Fact) → length list ≤ most_facts → length (listed_last list f) ≤ most_facts
unfolding listed_last
few_listed list f few = by (dec_lt (length list) most_facts) (in? spelled? (spelled f) (map spelled list))
  where
    by : (d : Dec (length list < most_facts)) (i : Dec (In (spelled f) (map spelled list))) → length (ite d (ite i list (list ++ (f ∷ []))) list) ≤ most_facts
    by (no n) i = few
    by (yes room) (yes h) = few
    by (yes room) (no new) = omega (arith, length-append list (f ∷ []))

-- ── The numbers ──

module _ (list : List ℕ) (c : Counted) (f : Fact) where
  -- The numbers with the fact after those that are counted, and as they are; a ledger of them.
  abbrev with_one : Ledger → Book
  with_one r = book record { ledger = r; count = c.count + 1 } (sets list (c.count * fact_numbers) (numbers_of_fact f))

  abbrev with_none : Ledger → Book
  with_none r = book record { ledger = r; count = c.count } list

  -- The office's question of a fact, by cases.
  numbers_full : ((length list ≡ list_numbers) × (c.count < most_facts) → ⊥) → fact_listed list c f ≡ with_none c.ledger
  unfolding fact_listed
  numbers_full n = if_neg (Dec.and (ℕ_discrete (length list) list_numbers) (dec_lt c.count most_facts)) n _ _

  module _ (room : (length list ≡ list_numbers) × (c.count < most_facts)) where
    numbers_have : In (spelled f) (facts_in list c.count) → fact_listed list c f ≡ with_none c.ledger
    unfolding fact_listed
    numbers_have h =
        if_pos (Dec.and (ℕ_discrete (length list) list_numbers) (dec_lt c.count most_facts)) room _ _
        ∙ if_pos (in? spelled? (spelled f) (facts_in list c.count)) h _ _

    numbers_lack : (In (spelled f) (facts_in list c.count) → ⊥) → fact_listed list c f ≡ with_one c.ledger
    unfolding fact_listed
    numbers_lack n =
        if_pos (Dec.and (ℕ_discrete (length list) list_numbers) (dec_lt c.count most_facts)) room _ _
        ∙ if_neg (in? spelled? (spelled f) (facts_in list c.count)) n _ _

  -- What is left of the numbers: with the fact where there are 160 and its list is longer than they count, and else as they are.
  abbrev Longer : List Fact → Type 0
  Longer more = (length list ≡ list_numbers) × (c.count < length more)

  abbrev longer? : (more : List Fact) → Dec (Longer more)
  longer? more = Dec.and (ℕ_discrete (length list) list_numbers) (dec_lt c.count (length more))

  abbrev left : ListBook → Book
  left b = ite (longer? b.list) (with_one b.ledger) (with_none b.ledger)

  put : (r : Ledger) (more : List Fact) → Longer more → left (list_book r more) ≡ with_one r
  put r more h = if_pos (longer? more) h _ _

  stayed : (r : Ledger) (more : List Fact) → (Longer more → ⊥) → left (list_book r more) ≡ with_none r
  stayed r more n = if_neg (longer? more) n _ _

  module _ (old : List Fact) (e : old ≡ facts_listed list (min most_facts c.count)) where
    counted : length old ≡ min most_facts c.count
    counted = ap length e ∙ listed_counted list (min most_facts c.count)

    -- The facts that are counted, where these are few.
    all_old : c.count ≤ most_facts → old ≡ facts_listed list c.count
    all_old few = let all : min most_facts c.count ≡ c.count = omega arith in e ∙ ap (facts_listed list) all

    unchanged : (r : Ledger) → left (list_book r old) ≡ with_none r
    unchanged r = stayed r old (λ h. let l = h.1 in omega (arith, counted))

    listed_left : left (list_book c.ledger (listed_last old f)) ≡ fact_listed list c f
    listed_left = by (Dec.and (ℕ_discrete (length list) list_numbers) (dec_lt c.count most_facts)) (in? spelled? (spelled f) (facts_in list c.count))
      where
        few : length old ≤ most_facts
        few = omega (arith, counted)

        by : Dec ((length list ≡ list_numbers) × (c.count < most_facts)) → Dec (In (spelled f) (facts_in list c.count))
            → left (list_book c.ledger (listed_last old f)) ≡ fact_listed list c f
        by (no n) i =
            stayed c.ledger (listed_last old f) (λ h. let l = h.1 in n (h.0, omega (arith, few_listed old f few))) ∙ sym (numbers_full n)
        by (yes room) (yes h) =
            let below = room.1 in
            let less : length old < most_facts = omega (arith, counted) in
            let same = listed_spelled list c.count ∙ ap (map spelled) (sym (all_old (omega arith))) in
            ap (λ more. left (list_book c.ledger more)) (sym (list_has old f less (subst (In (spelled f)) same h)))
            ∙ unchanged c.ledger
            ∙ sym (numbers_have room h)
        by (yes room) (no n) =
            let below = room.1 in
            let less : length old < most_facts = omega (arith, counted) in
            let same = listed_spelled list c.count ∙ ap (map spelled) (sym (all_old (omega arith))) in
            ap (λ more. left (list_book c.ledger more)) (sym (list_lacks old f less (λ h. n (subst (In (spelled f)) (sym same) h))))
            ∙ put c.ledger (old ++ (f ∷ [])) (room.0, omega (arith, counted, length-append old (f ∷ [])))
            ∙ sym (numbers_lack room n)

    -- What is left of the numbers by what is left of the list is what the question leaves of them.
    asked_left : (state : List ℕ) (q : ℕ) → left (asked_of_list state old c.ledger q f) ≡ fact_asked state list c q f
    unfolding asked_of_list fact_asked
    asked_left state q =
        let d = holds_at? (c.ledger.press - 1) (facts_said (stated state)) (spelled f) in
        made_by left c.ledger _ _ _
        ∙ asked_alike c.ledger
        (unchanged c.ledger)
        listed_left
        (apply_ite left d _ _ ∙ ap₂ (ite d) (unchanged c.ledger) (unchanged (stopped_by (FactMissing q) c.ledger)))

    -- With a sound book of numbers, that of the list is sound.
    pub old_sound : Sound (book c list) → ListSound (list_book c.ledger old)
    old_sound s = subst (λ fs. ListSound (list_book c.ledger fs)) (sym (all_old s.few)) (sound_facts list c s)

    module _ (state : List ℕ) (q : ℕ) (r : Ledger) (more : List Fact) (told : list_book r more ≡ asked_of_list state old c.ledger q f) where
      pub asked_longer : Longer more → with_one r ≡ fact_asked state list c q f
      asked_longer h = sym (put r more h) ∙ ap left told ∙ asked_left state q

      pub asked_stayed : (Longer more → ⊥) → with_none r ≡ fact_asked state list c q f
      asked_stayed n = sym (stayed r more n) ∙ ap left told ∙ asked_left state q

      grown : Grown old f more
      grown = subst (λ b. Grown old f b.list) (sym told) (asked_grown state old c.ledger q f)

      -- And the walk of the question leads there.
      module _ (s : Sound (book c list)) (g : ListGives state (list_book c.ledger old) (ask_fact q (spelled f)) (list_book r more) tt) where
        from_numbers : ListGives state (list_book c.ledger (facts_listed list c.count)) (ask_fact q (spelled f)) (list_book r more) tt
        from_numbers =
            subst (λ fs. ListGives state (list_book c.ledger fs) (ask_fact q (spelled f)) (list_book r more) tt) (all_old s.few) g

        pub leads_longer : Longer more → fact_in (sets list (c.count * fact_numbers) (numbers_of_fact f)) c.count ≡ f
            → Gives state (book c list) (ask_fact q (spelled f)) (with_one r) tt
        leads_longer h stands =
            gives_numbers state list (sets list (c.count * fact_numbers) (numbers_of_fact f)) c _ _ tt
            (stored_length (numbers_of_fact f) list (c.count * fact_numbers) ∙ h.0)
            (subst (λ fs. ListGives state (list_book c.ledger (facts_listed list c.count)) (ask_fact q (spelled f)) (list_book r fs) tt) same from_numbers)
          where
            more_is : more ≡ old ++ (f ∷ [])
            more_is = ⊎_elim (λ as_it_was. let l = h.1 in absurd (omega (arith, ap length as_it_was, counted, s.few))) (λ longer. longer) grown

            same : more ≡ facts_listed (sets list (c.count * fact_numbers) (numbers_of_fact f)) (c.count + 1)
            same = more_is ∙ ap (λ fs. fs ++ (f ∷ [])) (all_old s.few) ∙ sym (fact_more list (numbers_of_fact f) c.count f stands)

        pub leads_stayed : (Longer more → ⊥) → Gives state (book c list) (ask_fact q (spelled f)) (with_none r) tt
        leads_stayed n =
            gives_numbers state list list c _ _ tt s.room
            (subst (λ fs. ListGives state (list_book c.ledger (facts_listed list c.count)) (ask_fact q (spelled f)) (list_book r fs) tt) same from_numbers)
          where
            more_is : more ≡ old
            more_is =
                ⊎_elim (λ as_it_was. as_it_was)
                (λ longer. absurd (n (s.room, omega (arith, ap length longer, length-append old (f ∷ []), counted, s.few))))
                grown

            same : more ≡ facts_listed list c.count
            same = more_is ∙ all_old s.few

-- Without room for a fact no walk that asks for one goes on, by a list in numbers too.
pub no_room_in_numbers : (state list : List ℕ) (c : Counted) (q : ℕ) (f : Fact) → Sound (book c list) → (c.count < most_facts → ⊥)
    → Gives state (book c list) (ask_fact q (spelled f)) (book c list) tt
no_room_in_numbers state list c q f s full =
    let listed = listed_counted list c.count in
    gives_numbers state list list c c (ask_fact q (spelled f)) tt s.room
    (no_room state (facts_listed list c.count) c.ledger q f (sound_facts list c s) (λ room. full (omega (arith, listed, room))))
