-- What a question leaves of a ledger, by cases of its number and its press; and that the walk of the question leads there.
use Prim.Native.Nat.{ℕ, ◌-◌, ◌<◌}
use mathlib.Core.Bool.{Bool, true, false}
use mathlib.Core.Path.{◌≡◌, refl, sym, ◌∙◌}
use mathlib.Core.List.{List, [], ◌∷◌, ◌++◌, map}
use mathlib.Core.Logic.{ite, if_pos, if_neg}
use native.Mathlib.Decide.{dec_lt}
use lib.ListN.{length}
use borrow.Author.Tests.{eq-eqb, ne_eqb, eqb-true, eqb-false}
use lib.Dec.{eqb}
use Rattle.procap.specs.Lists.{In}
use Rattle.procap.specs.Tells.{Tells, pick}
use Rattle.procap.specs.Facts.{spelled, fact_of}
use Rattle.procap.specs.Procaps.{most_facts, HoldsAt}
use Rattle.procap.specs.States.{stated}
use Rattle.procap.specs.Order.{AtMost, decided}
use Rattle.procap.specs.Deciding.{in?, spelled?, at_most?, holds_at?}
use Rattle.procap.specs.declared.answer.Answer.TheVariants.{OrderFalse, FactMissing}
use Rattle.procap.specs.declared.fact.Fact.{Fact}
use Rattle.procap.specs.declared.time.Time.{Time}
use Rattle.procap.specs.declared.order.Decision.{Decision}
use Rattle.procap.specs.declared.order.Decision.TheVariants.{Holds, Fails, RaisesFrom, LowersTo}
use Rattle.bl.specs.Questions.{ask_order, ask_fact}
use Rattle.bl.specs.Readings.{narrow}
use Rattle.ledger.specs.declared.Reading.TheVariants.{Office, Press}
use Rattle.ledger.specs.declared.Ledger.{Ledger}
use Rattle.ledger.specs.Books.{Book, facts_said, stop_of, reading_in, stopped_by, book, kept_of, Sound, Gives, Leads, GoesOn}
use Rattle.ledger.specs.Asking.{narrowed_by, asked_by, order_asked, fact_listed, fact_asked}
use Rattle.ledger.proofs.Stopping.{going_number, number_going, tells_going, at_office, at_press}
use Rattle.ledger.proofs.Giving.{not_going, stays}
use Rattle.ledger.proofs.Asking.{narrows, order_fails, order_true, order_false, no_room, already_listed, listed_last, fact_true, fact_false}

-- ── By where the ledger is read ──

module _ {A : Type 0} (l : Ledger) (was office press : A) where
  -- What there was, what the office leaves, and what a press leaves.
  pub asked_stopped : (GoesOn l → ⊥) → was ≡ asked_by l was office press
  unfolding asked_by
  asked_stopped n = rw (ne_eqb l.number 0 (λ e. n (number_going l e)))

  module _ (going : GoesOn l) where
    pub asked_office : l.press ≡ 0 → office ≡ asked_by l was office press
    unfolding asked_by
    asked_office e = rw (eq-eqb l.number 0 (going_number l going), eq-eqb l.press 0 e)

    pub asked_press : (l.press ≡ 0 → ⊥) → press ≡ asked_by l was office press
    unfolding asked_by
    asked_press n = rw (eq-eqb l.number 0 (going_number l going), ne_eqb l.press 0 n)

  -- So what is so in each case is so of what is left.
  asked_cases : (P : A → Type 0) → ((GoesOn l → ⊥) → P was) → (reading_in l ≡ Office → P office)
      → (reading_in l ≡ Press (l.press - 1) → P press) → P (asked_by l was office press)
  unfolding asked_by
  asked_cases P stopped at_the_office pressed = by (eqb l.number 0) (tells_going l) (eqb l.press 0) refl
    where
      by : (b : Bool) → Tells b (GoesOn l) → (d : Bool) → eqb l.press 0 ≡ d → P (pick b (pick d office press) was)
      by false n d e = stopped n
      by true g true e = at_the_office (at_office l.press (eqb-true l.press 0 e))
      by true g false e = pressed (at_press l.press (eqb-false l.press 0 e))

-- ── A fact ──

module _ (list : List Fact) (f : Fact) where
  -- Without room the list stays,
  pub list_full : (length list < most_facts → ⊥) → list ≡ fact_listed list f
  unfolding fact_listed
  list_full n = sym (if_neg (dec_lt (length list) most_facts) n _ _)

  module _ (room : length list < most_facts) where
    -- as it does where the fact stands in it;
    pub list_has : In (spelled f) (map spelled list) → list ≡ fact_listed list f
    unfolding fact_listed
    list_has h = sym (if_pos (dec_lt (length list) most_facts) room _ _ ∙ if_pos (in? spelled? (spelled f) (map spelled list)) h _ _)

    -- else the fact goes to its end.
    pub list_lacks : (In (spelled f) (map spelled list) → ⊥) → list ++ (f ∷ []) ≡ fact_listed list f
    unfolding fact_listed
    list_lacks n = sym (if_pos (dec_lt (length list) most_facts) room _ _ ∙ if_neg (in? spelled? (spelled f) (map spelled list)) n _ _)

module _ (state : List ℕ) (list : List Fact) (l : Ledger) (q : ℕ) (f : Fact) (s : Sound (book l list)) where
  -- The list that the office leaves leads where the question does.
  listed_leads : reading_in l ≡ Office → f ≡ fact_of (spelled f) → Gives state (book l list) (ask_fact q (spelled f)) (book l (fact_listed list f)) tt
  listed_leads o form = by (dec_lt (length list) most_facts) (in? spelled? (spelled f) (map spelled list))
    where
      by : Dec (length list < most_facts) → Dec (In (spelled f) (map spelled list)) → Gives state (book l list) (ask_fact q (spelled f)) (book l (fact_listed list f)) tt
      by (no n) has = rw (← list_full list f n) (no_room state list l q f s n)
      by (yes room) (yes h) = rw (← list_has list f room h) (already_listed state list l q f s o h)
      by (yes room) (no new) = rw (← list_lacks list f room new) (listed_last state list l q f s o new room form)

  -- At a press it holds there, or stops the walk.
  pressed_fact : (m : ℕ) → reading_in l ≡ Press m
      → Gives state (book l list) (ask_fact q (spelled f))
      (ite (holds_at? m (facts_said (stated state)) (spelled f)) (book l list) (book (stopped_by (FactMissing q) l) list)) tt
  pressed_fact m o = by (holds_at? m (facts_said (stated state)) (spelled f))
    where
      by : Dec (HoldsAt m (facts_said (stated state)) (spelled f))
          → Gives state (book l list) (ask_fact q (spelled f))
          (ite (holds_at? m (facts_said (stated state)) (spelled f)) (book l list) (book (stopped_by (FactMissing q) l) list)) tt
      by (yes h) = rw (if_pos (holds_at? m (facts_said (stated state)) (spelled f)) h (book l list) (book (stopped_by (FactMissing q) l) list)) (fact_true state list l m q (spelled f) s o h)
      by (no n) = rw (if_neg (holds_at? m (facts_said (stated state)) (spelled f)) n (book l list) (book (stopped_by (FactMissing q) l) list)) (fact_false state list l m q (spelled f) s o n)

  -- The book that is left is where the question leads.
  pub fact_leads : {b : Book} → b ≡ fact_asked state list l q f → f ≡ fact_of (spelled f) → Gives state (book l list) (ask_fact q (spelled f)) b tt
  unfolding fact_asked
  fact_leads e form =
      rw e
      (asked_cases l (book l list) (book l (fact_listed list f))
      (ite (holds_at? (l.press - 1) (facts_said (stated state)) (spelled f)) (book l list) (book (stopped_by (FactMissing q) l) list))
      (λ b. Gives state (book l list) (ask_fact q (spelled f)) b tt)
      (λ n. stays state (book l list) _ _ tt (not_going (stop_of l) n).1 s)
      (λ o. listed_leads o form)
      (λ o. pressed_fact (l.press - 1) o))

-- ── An order ──

-- The office's decision leads where the question does.
narrowed_leads : (state : List ℕ) (list : List Fact) (l : Ledger) (q : ℕ) (t u : Time) → Sound (book l list) → reading_in l ≡ Office
    → (d : Decision) → d ≡ decided t u → Gives state (book l list) (ask_order q t u) (book (narrowed_by l q d) list) tt
unfolding narrowed_by narrow kept_of
narrowed_leads state list l q t u s o Holds e = narrows state list l q t u Holds s o e l refl refl refl
narrowed_leads state list l q t u s o Fails e = order_fails state list l q t u Fails s o e refl
narrowed_leads state list l q t u s o (RaisesFrom k) e = narrows state list l q t u (RaisesFrom k) s o e _ refl refl refl
narrowed_leads state list l q t u s o (LowersTo k) e = narrows state list l q t u (LowersTo k) s o e _ refl refl refl

-- At a press it holds there, or stops the walk.
pressed_leads : (state : List ℕ) (list : List Fact) (l : Ledger) (q : ℕ) (t u : Time) (m : ℕ) → Sound (book l list) → reading_in l ≡ Press m
    → Gives state (book l list) (ask_order q t u) (book (ite (at_most? m t u) l (stopped_by (OrderFalse q) l)) list) tt
pressed_leads state list l q t u m s o = by (at_most? m t u)
  where
    by : Dec (AtMost m t u) → Gives state (book l list) (ask_order q t u) (book (ite (at_most? m t u) l (stopped_by (OrderFalse q) l)) list) tt
    by (yes h) = rw (if_pos (at_most? m t u) h l (stopped_by (OrderFalse q) l)) (order_true state list l m q t u s o h)
    by (no n) = rw (if_neg (at_most? m t u) n l (stopped_by (OrderFalse q) l)) (order_false state list l m q t u s o n)

-- The ledger that is left is where the question leads.
pub order_leads : (l : Ledger) (q : ℕ) (t u : Time) {r : Ledger} → r ≡ order_asked l q t u → Leads l (ask_order q t u) r
unfolding order_asked
order_leads l q t u e state list s =
    rw e
    (asked_cases l l (narrowed_by l q (decided t u)) (ite (at_most? (l.press - 1) t u) l (stopped_by (OrderFalse q) l)) (λ r. Gives state (book l list) (ask_order q t u) (book r list) tt)
    (λ n. stays state (book l list) _ _ tt (not_going (stop_of l) n).1 s)
    (λ o. narrowed_leads state list l q t u s o (decided t u) refl)
    (λ o. pressed_leads state list l q t u (l.press - 1) s o))
