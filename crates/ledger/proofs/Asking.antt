-- What a question that is asked leaves of a book: at the office it narrows the moments or lists a fact, at a press it is true or stops the walk.
use Prim.Native.Nat.{ℕ, ◌<◌}
use mathlib.Core.Path.{◌≡◌, refl, sym, ap, ◌∙◌}
use mathlib.Core.List.{List, [], ◌∷◌, ◌++◌, map, map-append}
use Rattle.std.specs.Prelude.{Err, None, Ok, Option, Some}
use mathlib.Core.Logic.{ite, if_pos, if_neg, ⊎_elim}
use native.Mathlib.Omega.{arith}
use lib.ListN.{length}
use Rattle.procap.specs.Lists.{In}
use Rattle.procap.specs.Order.{AtMost, decided}
use Rattle.procap.specs.Facts.{Spelled, spelled, fact_of, fact_at_moment, spelled_at_moment}
use Rattle.procap.specs.Procaps.{most_facts, HoldsAt}
use Rattle.procap.specs.States.{stated}
use Rattle.procap.specs.Outcome.{go_on}
use Rattle.procap.specs.Deciding.{in?, spelled?}
use Rattle.procap.specs.declared.answer.Answer.{Answer}
use Rattle.procap.specs.declared.answer.Answer.TheVariants.{OrderFalse, FactMissing}
use Rattle.procap.specs.declared.fact.Fact.{Fact}
use Rattle.procap.specs.declared.time.Time.{Time}
use Rattle.procap.specs.declared.order.Decision.{Decision}
use Rattle.procap.specs.declared.order.Decision.TheVariants.{Fails}
use Rattle.procap.proofs.Spelling.{spelled_put}
use Rattle.bl.specs.Questions.{Question, at_most, holds, Test, done, ask, cost, asks, ask_order, ask_fact}
use Rattle.bl.specs.Readings.{Kept, True, true?, fault, narrow, list_fact, learn, answered, run}
use Rattle.state.specs.Standing.{Stands}
use Rattle.ledger.specs.declared.Reading.{Reading}
use Rattle.ledger.specs.declared.Reading.TheVariants.{Office, Press}
use Rattle.ledger.specs.declared.Ledger.{Ledger}
use Rattle.ledger.specs.Books.{book, Sound, Gives, stop_of, reading_in, stopped_by, kept_of, reading_of, facts_said, resume, unless_stopped}
use Rattle.ledger.proofs.Stopping.{Stops, refusal_stops, fault_stops}
use Rattle.ledger.proofs.Giving.{goes_or_stopped, stays, refuses, same_sound}
use Rattle.ledger.proofs.Listing.{more_sound}

-- ── A question, as a book is read ──

-- A question, and nothing after it.
abbrev asked : Question → ℕ → Test
asked x q = ask x q (done tt)

module _ (state : List ℕ) (list : List Fact) (l : Ledger) (x : Question) (q : ℕ) where
  -- Where a question is granted, the walk goes on with what is left.
  grants : (list' : List Fact) (r : Ledger) → reading_in r ≡ reading_in l → stop_of r ≡ stop_of l → Sound (book r list')
      → answered (reading_of state (reading_in l)) x q (kept_of (book l list)) ≡ Ok (kept_of (book r list'))
      → Gives state (book l list) (asked x q) (book r list') tt
  unfolding resume run go_on
  grants list' r e f s h = record {
    same_reading = e;
    sound = s;
    resumed = λ _.
        ap (λ t. unless_stopped t (run (reading_of state (reading_in r)) (done (tt {0})) (kept_of (book r list')))) f
        ∙ ap (λ y. unless_stopped (stop_of l) (go_on y (λ k. Ok (tt {0}, k)))) (sym h);
  }

  -- Where it is refused, the walk stops.
  denies : (answer : Answer) → Stops answer → Sound (book l list)
      → answered (reading_of state (reading_in l)) x q (kept_of (book l list)) ≡ Err answer
      → Gives state (book l list) (asked x q) (book (stopped_by answer l) list) tt
  unfolding run go_on
  denies answer k s h = refuses state list l answer (asked x q) tt k s (rw h)

-- ── At the office ──

-- A question is learnt there.
learnt : (state : List ℕ) (o : Reading) (x : Question) (q : ℕ) (s : Kept) → o ≡ Office → answered (reading_of state o) x q s ≡ learn x q s
unfolding reading_of answered
learnt state o x q s e = rw e

module _ (state : List ℕ) (list : List Fact) (l : Ledger) (q : ℕ) (t u : Time) (d : Decision) (s : Sound (book l list)) (o : reading_in l ≡ Office) (h : d ≡ decided t u) where
  -- An order narrows the moments as it was decided.
  pub narrows : (r : Ledger) → reading_in r ≡ reading_in l → stop_of r ≡ stop_of l
      → narrow q (kept_of (book l list)) d ≡ Ok (kept_of (book r list))
      → Gives state (book l list) (ask_order q t u) (book r list) tt
  unfolding learn
  narrows r e f k = grants state list l (at_most t u) q list r e f (same_sound list l r s) (learnt state (reading_in l) _ q _ o ∙ rw (← h) k)

  -- An order that is decided false stops the walk.
  pub order_fails : d ≡ Fails → Gives state (book l list) (ask_order q t u) (book (stopped_by (OrderFalse q) l) list) tt
  unfolding learn narrow
  order_fails k = denies state list l (at_most t u) q (OrderFalse q) (refusal_stops (OrderFalse q) (omega arith)) s (learnt state (reading_in l) _ q _ o ∙ rw (← h, k))

-- Without room for a fact no walk that asks for one goes on.
pub no_room : (state : List ℕ) (list : List Fact) (l : Ledger) (q : ℕ) (f : Fact) → Sound (book l list) → (length list < most_facts → ⊥)
    → Gives state (book l list) (ask_fact q (spelled f)) (book l list) tt
unfolding asks cost
no_room state list l q f s full = record {
  same_reading = refl;
  sound = s;
  resumed = λ room. ⊎_elim (λ going. absurd (omega (arith, room going, full))) (λ e. (stays state (book l list) e.0 _ tt e.1 s).resumed room) (goes_or_stopped (stop_of l));
}

module _ (state : List ℕ) (list : List Fact) (l : Ledger) (q : ℕ) (f : Fact) (s : Sound (book l list)) (o : reading_in l ≡ Office) where
  -- A fact that is listed leaves the book as it is.
  pub already_listed : In (spelled f) (map spelled list) → Gives state (book l list) (ask_fact q (spelled f)) (book l list) tt
  unfolding learn list_fact kept_of
  already_listed h =
      grants state list l (holds (spelled f)) q list l refl refl s
      (learnt state (reading_in l) _ q _ o ∙ ap Ok (if_pos (in? spelled? (spelled f) (map spelled list)) h _ _))

  -- A new one, for which there is room, is listed last.
  pub listed_last : (In (spelled f) (map spelled list) → ⊥) → length list < most_facts → f ≡ fact_of (spelled f)
      → Gives state (book l list) (ask_fact q (spelled f)) (book l (list ++ (f ∷ []))) tt
  unfolding learn list_fact kept_of
  listed_last new room form =
      grants state list l (holds (spelled f)) q (list ++ (f ∷ [])) l refl refl
      (more_sound list l f s room form)
      (learnt state (reading_in l) _ q _ o
      ∙ ap Ok (if_neg (in? spelled? (spelled f) (map spelled list)) new _ _)
      ∙ ap (λ fs. Ok record { from = l.from; to = l.to; facts = fs }) (sym (map-append spelled list (f ∷ []))))

-- ── At a press ──

module _ (state : List ℕ) (list : List Fact) (l : Ledger) (m : ℕ) (x : Question) (q : ℕ) (s : Sound (book l list)) (o : reading_in l ≡ Press m) where
  -- What the state says.
  said : List Spelled
  said = facts_said (stated state)

  -- A question is true there or not.
  met : answered (reading_of state (reading_in l)) x q (kept_of (book l list)) ≡ ite (true? m said x) (Ok (kept_of (book l list))) (Err (fault x q))
  unfolding reading_of answered said
  met = ap (λ y. answered (reading_of state y) x q (kept_of (book l list))) o

  -- A question that is true there leaves the book as it is.
  true_at_press : True m (facts_said (stated state)) x → Gives state (book l list) (asked x q) (book l list) tt
  unfolding said
  true_at_press h = grants state list l x q list l refl refl s (met ∙ if_pos (true? m said x) h _ _)

  -- One that is false stops the walk.
  false_at_press : (True m (facts_said (stated state)) x → ⊥) → Gives state (book l list) (asked x q) (book (stopped_by (fault x q) l) list) tt
  unfolding said
  false_at_press n = denies state list l x q (fault x q) (fault_stops x q) s (met ∙ if_neg (true? m said x) n _ _)

module _ (state : List ℕ) (list : List Fact) (l : Ledger) (m q : ℕ) (t u : Time) (s : Sound (book l list)) (o : reading_in l ≡ Press m) where
  -- An order at a press.
  pub order_true : AtMost m t u → Gives state (book l list) (ask_order q t u) (book l list) tt
  unfolding True
  order_true h = true_at_press state list l m (at_most t u) q s o h

  pub order_false : (AtMost m t u → ⊥) → Gives state (book l list) (ask_order q t u) (book (stopped_by (OrderFalse q) l) list) tt
  unfolding True fault
  order_false n = false_at_press state list l m (at_most t u) q s o n

-- A fact at a press.
module _ (state : List ℕ) (list : List Fact) (l : Ledger) (m q : ℕ) (f : Spelled) (s : Sound (book l list)) (o : reading_in l ≡ Press m) where
  pub fact_true : HoldsAt m (facts_said (stated state)) f → Gives state (book l list) (ask_fact q f) (book l list) tt
  unfolding True
  fact_true h = true_at_press state list l m (holds f) q s o h

  pub fact_false : (HoldsAt m (facts_said (stated state)) f → ⊥) → Gives state (book l list) (ask_fact q f) (book (stopped_by (FactMissing q) l) list) tt
  unfolding True fault
  fact_false n = false_at_press state list l m (holds f) q s o n

-- The facts that a state says are those that stand in it.
stands_said : (bytes : List ℕ) (f : Spelled) → Stands bytes f → In f (facts_said (stated bytes))
unfolding facts_said
stands_said bytes f h = rw h.1 h.2

said_stands : (bytes : List ℕ) (f : Spelled) → In f (facts_said (stated bytes)) → Stands bytes f
unfolding facts_said In
said_stands bytes f h = by (stated bytes) refl h
  where
    by : (o : Option (List Spelled)) → stated bytes ≡ o → In f (facts_said o) → Stands bytes f
    by None e h = absurd h
    by (Some σ) e h = (σ, e, h)

-- A fact at a press is looked for with the moment put in.
module _ (state : List ℕ) (m : ℕ) (f put : Fact) (e : put ≡ fact_at_moment m f) where
  -- It is spelled as it is asked for.
  as_asked : spelled put ≡ spelled_at_moment m (spelled f)
  as_asked = ap spelled e ∙ spelled_put m f

  -- It holds there where it so stands in the state, and only there.
  pub holds_there : Stands state (spelled put) → HoldsAt m (facts_said (stated state)) (spelled f)
  holds_there h = rw as_asked at (stands_said state _ h)

  pub holds_not : (Stands state (spelled put) → ⊥) → HoldsAt m (facts_said (stated state)) (spelled f) → ⊥
  holds_not n h = n (said_stands state _ (rw as_asked h))
