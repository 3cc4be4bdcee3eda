-- A pass over a state that ends where the wanted fact is found: none of the facts before the place is the wanted one, so it stands in the
-- state if it is the next, and if no fact is left it does not.
use Prim.Native.Nat.{ℕ, suc, ◌≤◌, ◌<◌}
use mathlib.Core.Bool.{Bool, false}
use mathlib.Core.Path.{◌≡◌, refl, sym, ap, ◌∙◌}
use mathlib.Core.List.{List}
use Rattle.std.proofs.lemmas.Option.{none-some}
use Rattle.std.specs.Prelude.{None, Option, Some}
use native.Mathlib.Decide.{dec_le}
use native.Mathlib.Omega.{arith}
use lib.ListN.{length}
use lib.Dec.{leb}
use Rattle.procap.specs.Tells.{Tells}
use Rattle.procap.specs.Lists.{In}
use Rattle.procap.specs.Facts.{Spelled, spelled, fact_at_moment, spelled_at_moment}
use Rattle.procap.specs.Bytes.{number, whole}
use Rattle.procap.specs.States.{most_state_bytes, fact, facts, stated}
use Rattle.procap.specs.declared.fact.Fact.{Fact}
use Rattle.procap.proofs.Telling.{picked}
use Rattle.procap.proofs.InMore.{in_more}
use Rattle.procap.proofs.Spelling.{spelled_put}
use Rattle.procap.proofs.ReadSoFar.{led_by}
use Rattle.procap.proofs.ReadApart.{same_read, not_read, at_the_end}
use Rattle.state.proofs.Terms.{no_predicate}
use Rattle.door.proofs.Widths.{fact_parts}
use Rattle.state.proofs.Passes.{FactsRead, no_facts_read, wanted_read, other_read, fact_missing_read, all_facts_read}

-- If the bytes are a state, none of its facts before a place is the wanted one.
pub record NoneBefore (bytes : List ℕ) (wanted : Spelled) (at : ℕ) : Type 0 where
  pub passed : (σ : List Spelled) → stated bytes ≡ Some σ → FactsRead bytes wanted false at

pub none_before : (bytes : List ℕ) (wanted : Spelled) → NoneBefore bytes wanted 0
none_before bytes wanted = record { passed = λ σ s. no_facts_read bytes wanted }

-- What stands among the first values stands among all.
in_all : {A : Type 0} (x : A) (xs : List A) (rest : Option (List A × ℕ)) (ys : List A) (e : ℕ) → led_by xs rest ≡ Some (ys, e) → In x xs → In x ys
unfolding led_by
in_all x xs None ys e h i = absurd (none-some (ys, e) h)
in_all x xs (Some r) ys e h i = rw (same_read _ refl h).0 at (in_more x xs r.0 i)

module _ (bytes : List ℕ) (wanted : Spelled) (at : ℕ) (h : NoneBefore bytes wanted at) where
  module _ (σ : List Spelled) (s : stated bytes ≡ Some σ) where
    -- The facts of a state are read up to its end.
    all_said : facts bytes (suc (length bytes)) 0 ≡ Some (σ, length bytes)
    unfolding stated whole
    all_said =
        picked (leb (length bytes) most_state_bytes) _ None (Some σ) (none-some σ) s λ _ same.
        at_the_end bytes (facts bytes (suc (length bytes)) 0) σ same

    -- So before the end there is a next one.
    next_fact : at < length bytes → (f : Spelled) × (e : ℕ) × (fact bytes at ≡ Some (f, e))
    next_fact l = by (fact bytes at) refl
      where
        by : (o : Option (Spelled × ℕ)) → fact bytes at ≡ o → (f : Spelled) × (e : ℕ) × (fact bytes at ≡ Some (f, e))
        by None m = absurd (not_read _ (fact_missing_read bytes wanted false at (h.passed σ s) l m) all_said)
        by (Some r) m = (r.0, r.1, m)

    -- It has a predicate.
    predicate_there : at < length bytes → number bytes 2 at ≡ None → ⊥
    predicate_there l m = let (f, e, r) = next_fact l in not_read (fact bytes at) (no_predicate bytes at m) r

    -- Where it is the wanted one, that stands in the state.
    pub next_is_wanted : at < length bytes → ((f : Spelled) (e : ℕ) → fact bytes at ≡ Some (f, e) → wanted ≡ f) → In wanted σ
    next_is_wanted l is =
        let (f, e, r) = next_fact l in
        let more = wanted_read bytes wanted false at (h.passed σ s) f e l r (sym (is f e r)) in
        in_all wanted more.passed (facts bytes more.rounds e) σ (length bytes) (sym more.left ∙ all_said) more.told

    -- At the end the wanted one was not there.
    not_there : length bytes ≤ at → In wanted σ → ⊥
    not_there l i =
        let read = h.passed σ s in
        let same = same_read _ all_said (all_facts_read bytes wanted false at read l) in
        read.told (rw same.0 at i)

    -- So it was not there where no predicate is left.
    pub none_left : number bytes 2 at ≡ None → In wanted σ → ⊥
    none_left m i = by (dec_le (length bytes) at)
      where
        by : Dec (length bytes ≤ at) → ⊥
        by (yes l) = not_there l i
        by (no n) = predicate_there (omega arith) m

  -- Where the next fact is another one, none up to its end is the wanted one.
  pub next_is_another : at < length bytes → (next : ℕ) → ((f : Spelled) (e : ℕ) → fact bytes at ≡ Some (f, e) → wanted ≡ f → ⊥)
      → ((f : Spelled) (e : ℕ) → fact bytes at ≡ Some (f, e) → next ≡ e) → NoneBefore bytes wanted next
  next_is_another l next differs ends = record {
    passed = λ σ s.
        let (f, e, r) = next_fact σ s l in
        rw (ends f e r) (other_read bytes wanted false at (h.passed σ s) f e l r (λ same. differs f e r (sym same)));
  }

-- A fact with another predicate is another fact, whatever the moment.
pub other_predicate : (bytes : List ℕ) (at p place : ℕ) → number bytes 2 at ≡ Some (p, place) → (w : Fact) (m : ℕ) → (p ≡ w.predicate → ⊥)
    → (f : Spelled) (e : ℕ) → fact bytes at ≡ Some (f, e) → spelled_at_moment m (spelled w) ≡ f → ⊥
unfolding spelled spelled_at_moment
other_predicate bytes at p place r w m n f e h same =
    let read = same_read (number bytes 2 at) (fact_parts bytes at f e h).predicate_reads r in
    n (sym read.0 ∙ sym (ap (λ x. x.0) same))

-- A flag that tells whether the fact that was read at a place is the wanted one tells it of the fact there.
pub same_there : (bytes : List ℕ) (at : ℕ) (w g : Fact) (m next : ℕ) (b : Bool) → Tells b (spelled (fact_at_moment m w) ≡ spelled g)
    → fact bytes at ≡ Some (spelled g, next) → (f : Spelled) (e : ℕ) → fact bytes at ≡ Some (f, e) → Tells b (spelled_at_moment m (spelled w) ≡ f)
same_there bytes at w g m next b t r f e h = rw (← (same_read (fact bytes at) r h).0, ← spelled_put m w) t
