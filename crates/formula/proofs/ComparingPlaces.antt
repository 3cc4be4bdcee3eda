-- Places are compared one after another: a name, a time or a variable with what stands in its place, and then the places after them.
use Prim.Native.Nat.{ℕ, suc}
use mathlib.Core.Path.{◌≡◌, refl, sym, ap, ap₂, ◌∙◌}
use mathlib.Core.List.{List, [], ◌∷◌, map}
use Rattle.std.proofs.lemmas.Option.{none-some, same_Some}
use Rattle.std.specs.Prelude.{None, Option, Some}
use Rattle.procap.specs.Bytes.{then, many}
use Rattle.procap.specs.declared.time.Time.{Time}
use Rattle.procap.specs.declared.fact.Term.{Term}
use Rattle.procap.specs.declared.fact.Term.TheVariants.{Name, When}
use Rattle.procap.proofs.ReadApart.{first_of, none_of}
use Rattle.bl.specs.declared.Sort.{Sort}
use Rattle.bl.specs.Trees.{Place, fixed}
use Rattle.bl.specs.Formulas.{argument}
use Rattle.bl.specs.Questions.{done, misfit, ◌>>=◌, ◌>>◌, ask_order, need, need_equal}
use Rattle.bl.specs.Kinds.{as_name, as_time, as_variable}
use Rattle.bl.specs.Walk.{same_place, same_places}
use Rattle.ledger.specs.declared.Ledger.{Ledger}
use Rattle.formula.specs.declared.terms.Place as code
use Rattle.formula.specs.declared.terms.Place.TheVariants.{Fixed, Bound}
use Rattle.formula.specs.declared.parts.FormulaAt.{FormulaAt}
use Rattle.formula.specs.declared.compare.Compared.{Compared}
use Rattle.ledger.specs.Books.{book, misfitted}
use Rattle.formula.specs.PutIn.{terms_of, FewTerms, place_of, fill_place}
use Rattle.formula.specs.Meaning.{begin, PlaceReadsIfAny}
use Rattle.ledger.specs.Books.{Leads}
use Rattle.formula.specs.Comparing.{Two, move, PlacesStand, ComparesPlaces}
use Rattle.ledger.proofs.Giving as giving
use Rattle.formula.proofs.Shapes as shapes
use Rattle.formula.proofs.Comparing.{test_done, equal_numbers, other_numbers, leads_as, agrees}

-- ── One place ──

module _ (l : Ledger) (q : ℕ) (r : Ledger) where
  misfit_leads : r ≡ misfitted l q → Leads l (misfit q) r
  misfit_leads is state list s = rw is (giving.misfits state list l q tt s)

  -- Two numbers.
  pub numbers_agree : (n k : ℕ) → n ≡ k → r ≡ l → Leads l (need_equal q n k) r
  numbers_agree n k e is state list s = rw (is, equal_numbers q n k e) (giving.idle state (book l list) tt s)

  pub numbers_differ : (n k : ℕ) → (n ≡ k → ⊥) → r ≡ misfitted l q → Leads l (need_equal q n k) r
  numbers_differ n k e is = rw (other_numbers q n k e) (misfit_leads is)

  -- Two terms: names by their numbers, times by asking both orders; a name is no time.
  module _ (one other : Term) where
    abbrev TermsLead : Type 0
    TermsLead = Leads l (same_place q (fixed one) (fixed other)) r

    pub names_same : (n k : ℕ) → one ≡ Name n → other ≡ Name k → Leads l (need_equal q n k) r → TermsLead
    unfolding same_place need as_name ◌>>=◌
    names_same n k e f h = rw (e, f) h

    pub name_no_time : (n : ℕ) (u : Time) → one ≡ Name n → other ≡ When u → r ≡ misfitted l q → TermsLead
    unfolding same_place need as_name ◌>>=◌
    name_no_time n u e f is = rw (e, f) (misfit_leads is)

    pub time_no_name : (t : Time) (k : ℕ) → one ≡ When t → other ≡ Name k → r ≡ misfitted l q → TermsLead
    unfolding same_place need as_time ◌>>=◌
    time_no_name t k e f is = rw (e, f) (misfit_leads is)

    pub times_same : (t u : Time) (asked : Ledger) → one ≡ When t → other ≡ When u → Leads l (ask_order q t u) asked
        → Leads asked (ask_order q u t) r → TermsLead
    unfolding same_place need as_time ◌>>=◌
    times_same t u asked e f h k = rw (e, f) both
      where
        both : Leads l (ask_order q t u >> ask_order q u t) r
        both state list s =
            let first = h state list s in
            giving.then state (book l list) (book asked list) (book r list) (ask_order q t u) tt (λ _. ask_order q u t) tt first
            (k state list first.sound)

  -- Two places: variables by their numbers, terms as terms; a variable is no term.
  module _ (one other : code.Place) where
    abbrev PlacesLead : Type 0
    PlacesLead = Leads l (same_place q (place_of one) (place_of other)) r

    pub variables_same : (i j : ℕ) → one ≡ Bound i → other ≡ Bound j → Leads l (need_equal q i j) r → PlacesLead
    unfolding same_place place_of need as_variable ◌>>=◌
    variables_same i j e f h = rw (e, f) h

    pub terms_same : (t u : Term) → one ≡ Fixed t → other ≡ Fixed u → Leads l (same_place q (fixed t) (fixed u)) r → PlacesLead
    unfolding place_of
    terms_same t u e f h = rw (e, f) h

    pub variable_no_term : (i : ℕ) (u : Term) → one ≡ Bound i → other ≡ Fixed u → r ≡ misfitted l q → PlacesLead
    unfolding same_place place_of need as_variable ◌>>=◌
    variable_no_term i u e f is = rw (e, f) (misfit_leads is)

    pub term_no_variable : (t : Term) (j : ℕ) → one ≡ Fixed t → other ≡ Bound j → r ≡ misfitted l q → PlacesLead
    unfolding same_place place_of need as_name as_time ◌>>=◌
    term_no_variable (Name n) j e f is = rw (e, f) (misfit_leads is)
    term_no_variable (When t) j e f is = rw (e, f) (misfit_leads is)

-- ── Places that stand in bytes ──

module _ (bytes : List ℕ) (d : ℕ) (f : FormulaAt) where
  abbrev fill : Place → Place
  fill = fill_place d (terms_of f.terms)

  -- One place, and two.
  pub one_stands : {sorts : List Sort} {place : ℕ} {x : Place} {e : ℕ} → FewTerms f.terms → shapes.Stands bytes d f sorts place x e
      → PlacesStand bytes d 1 (begin f place) (x ∷ []) e
  unfolding many then
  one_stands {sorts} few h =
      record { few = few; sorts = sorts; written = h.written ∷ []; reads = rw h.reads; filled = ap (λ x. x ∷ []) h.filled }

  pub two_stand : {sorts : List Sort} {place next : ℕ} {x y : Place} {e : ℕ} → FewTerms f.terms → shapes.Stands bytes d f sorts place x next
      → shapes.Stands bytes d f sorts next y e → PlacesStand bytes d 2 (begin f place) (x ∷ y ∷ []) e
  unfolding many then
  two_stand {sorts} few h k = record {
    few = few;
    sorts = sorts;
    written = h.written ∷ k.written ∷ [];
    reads = rw (h.reads, k.reads);
    filled = ap₂ (λ x y. x ∷ y ∷ []) h.filled k.filled;
  }

  -- No places are none, and end where they begin.
  none_stand : (place : ℕ) (xs : List Place) (e : ℕ) → PlacesStand bytes d 0 (begin f place) xs e → (xs ≡ []) × (place ≡ e)
  none_stand place xs e h =
      let found = none_of (argument bytes h.sorts) 0 place h.written e refl h.reads in
      (sym h.filled ∙ ap (map fill) found.0, found.1)

  -- What `place_if_any` promises of a place.
  abbrev FindsPlace : ℕ → Option (code.Place × ℕ) → Type 0
  FindsPlace place r = PlaceReadsIfAny bytes place f.terms d r

  -- Where it finds none there are no places.
  none_there : (place count : ℕ) (xs : List Place) (e : ℕ) → FindsPlace place None → PlacesStand bytes d (suc count) (begin f place) xs e → ⊥
  none_there place count xs e finds h =
      let one = first_of (argument bytes h.sorts) count place h.written e h.reads in
      let found = finds h.sorts one.first one.next one.first_reads in
      none-some _ found.1

  -- Where it finds the first of some places, the others stand after it.
  record MoreStand (found : code.Place) (next count : ℕ) (xs : List Place) (e : ℕ) : Type 0 where
    others : List Place
    is : xs ≡ place_of found ∷ others
    places : PlacesStand bytes d count (begin f next) others e

  more_stand : (place count : ℕ) (found : code.Place) (next : ℕ) (xs : List Place) (e : ℕ) → FindsPlace place (Some (found, next))
      → PlacesStand bytes d (suc count) (begin f place) xs e → MoreStand found next count xs e
  more_stand place count found next xs e finds h =
      let one = first_of (argument bytes h.sorts) count place h.written e h.reads in
      let there = finds h.sorts one.first one.next one.first_reads in
      let same = same_Some (found, next) (there.0, one.next) there.1 in
      let place_is = ap (λ r. place_of r.0) same ∙ there.2 h.few in
      let next_is = ap (λ r. r.1) same in
      record {
        others = map fill one.others;
        is = sym h.filled ∙ ap (map fill) one.is ∙ ap (λ x. x ∷ map fill one.others) (sym place_is);
        places =
            record { few = h.few; sorts = h.sorts; written = one.others; reads = rw next_is one.others_read; filled = refl };
      }

-- ── Places compared ──

-- One place, and two places, as the lines of a walk.
pub one_place : (q : ℕ) (x y : Place) → same_places q (x ∷ []) (y ∷ []) ≡ same_place q x y
unfolding same_places
one_place q x y = test_done (same_place q x y)

pub two_places : (q : ℕ) (x x' y y' : Place) → same_places q (x ∷ x' ∷ []) (y ∷ y' ∷ []) ≡ (same_place q x y >> same_place q x' y')
unfolding same_places
two_places q x x' y y' = ap (λ w. same_place q x y >> w) (one_place q x' y')

module _ (left_bytes right_bytes : List ℕ) (pair : Two) (x y : ℕ) (l : Ledger) where
  abbrev d : ℕ
  d = pair.under

  abbrev q : ℕ
  q = pair.offset

  -- No places.
  pub no_places : (count : ℕ) → count ≡ 0
      → ComparesPlaces left_bytes right_bytes count (move pair x y) l (record { ledger = l; left_next = x; right_next = y })
  unfolding same_places
  no_places count is xs ys e e' h h' =
      let a = none_stand left_bytes d pair.left x xs e (rw is at h) in
      let b = none_stand right_bytes d pair.right y ys e' (rw is at h') in
      let r : Compared = record { ledger = l; left_next = x; right_next = y } in
      leads_as l _ (done tt) r x e y e' (ap₂ (same_places q) a.0 b.0) a.1 b.1 (agrees l r refl)

  -- With no place on a side there is nothing to compare.
  pub no_left_place : (count more : ℕ) (r : Compared) → more ≡ suc count → FindsPlace left_bytes d pair.left x None
      → ComparesPlaces left_bytes right_bytes more (move pair x y) l r
  no_left_place count more r is finds xs ys e e' h h' = absurd (none_there left_bytes d pair.left x count xs e finds (rw is at h))

  pub no_right_place : (count more : ℕ) (r : Compared) → more ≡ suc count → FindsPlace right_bytes d pair.right y None
      → ComparesPlaces left_bytes right_bytes more (move pair x y) l r
  no_right_place count more r is finds xs ys e e' h h' = absurd (none_there right_bytes d pair.right y count ys e' finds (rw is at h'))

  -- One place, and then the others.
  pub next_places : (count more : ℕ) (one other : code.Place) (next next' : ℕ) (m : Ledger) (r : Compared) → more ≡ suc count
      → FindsPlace left_bytes d pair.left x (Some (one, next)) → FindsPlace right_bytes d pair.right y (Some (other, next'))
      → Leads l (same_place q (place_of one) (place_of other)) m
      → ComparesPlaces left_bytes right_bytes count (move pair next next') m r
      → ComparesPlaces left_bytes right_bytes more (move pair x y) l r
  unfolding same_places
  next_places count more one other next next' m r is finds finds' test rest xs ys e e' h h' state list s =
      let a = more_stand left_bytes d pair.left x count one next xs e finds (rw is at h) in
      let b = more_stand right_bytes d pair.right y count other next' ys e' finds' (rw is at h') in
      let first = test state list s in
      let others = rest a.others b.others e e' a.places b.places state list first.sound in
      let after = same_places q a.others b.others in
      let both = giving.then state (book l list) (book m list) (book r.ledger list) _ tt (λ _. after) tt first others.0 in
      (rw (ap₂ (same_places q) a.is b.is) both, others.1)
