-- What a step takes of a formula where places stand: an "at" and an order have two times, "says" has a name, a state fact has terms.
use Prim.Native.Nat.{ℕ, ◌+◌}
use mathlib.Core.Path.{◌≡◌, refl, sym, ◌∙◌, ap}
use mathlib.Core.List.{List}
use Rattle.std.proofs.lemmas.Option.{none-some, same_Some}
use Rattle.std.specs.Prelude.{None, Option, Some}
use Rattle.procap.specs.Facts.{spelled, fact_of}
use Rattle.procap.specs.declared.time.Time.{Time}
use Rattle.procap.specs.declared.fact.Fact.{Fact}
use Rattle.procap.specs.declared.fact.Term.{Term}
use Rattle.procap.specs.declared.fact.Term.TheVariants.{Name, When}
use Rattle.procap.specs.declared.fact.Fact.{Fact}
use Rattle.bl.specs.declared.FormulaTag.TheVariants.{SaysTag, AtTag, FactTag, OrderTag}
use Rattle.bl.specs.Trees as tree
use Rattle.bl.specs.declared.Sort.{Sort}
use Rattle.bl.specs.Trees.{Formula, says, fact, fixed, bound}
use Rattle.bl.specs.Formulas.{argument}
use Rattle.bl.specs.Kinds.{as_name, as_time}
use Rattle.bl.specs.Questions.{Walk, misfit, ask_order, ask_fact}
use Rattle.ledger.specs.declared.Ledger.{Ledger}
use Rattle.formula.specs.declared.terms.Terms.{Terms}
use Rattle.formula.specs.declared.terms.Place.{Place}
use Rattle.formula.specs.declared.terms.Place.TheVariants.{Fixed, Bound}
use Rattle.formula.specs.declared.parts.FormulaAt.{FormulaAt}
use Rattle.formula.specs.declared.parts.Judgement.{Judgement}
use Rattle.judging.specs.declared.judge.Span.{Span}
use Rattle.ledger.specs.Books.{book, Sound, Gives}
use Rattle.formula.specs.PutIn.{terms_of, FewTerms, place_of, fill_place}
use Rattle.formula.specs.Meaning.{tag_of, begin, Means, On, PlaceReadsIfAny, SpellsPlaces}
use Rattle.judging.specs.Judging.{at_parts, fact_goal, order_goal, Takes, takes, unfit}
use Rattle.judging.specs.Pieces.{two_times}
use Rattle.formula.proofs.Shapes.{Stands, inside, says_shape, at_shape, fact_shape, order_shape}
use Rattle.ledger.proofs.Giving.{then}
use Rattle.judging.proofs.Coming.{passes, stops}
use Rattle.judging.proofs.JudgingLaws.{takes_then}
use Rattle.judging.proofs.WalkParts.{at_there, order_there, fact_there, no_terms}
use Rattle.judging.proofs.PartsTaken.{After}

-- ── One place ──

-- What the code reads is what stands there.
pub is_fixed : {x : tree.Place} {p : Place} {t : Term} → place_of p ≡ x → p ≡ Fixed t → x ≡ fixed t
unfolding place_of
is_fixed e f = sym e ∙ ap place_of f

pub is_bound : {x : tree.Place} {p : Place} {i : ℕ} → place_of p ≡ x → p ≡ Bound i → x ≡ bound i
unfolding place_of
is_bound e f = sym e ∙ ap place_of f

-- A variable is no time and no name, a name is no time, and a time is no name.
pub bound_no_time : {x : tree.Place} {i : ℕ} → x ≡ bound i → as_time x ≡ None
unfolding as_time
bound_no_time e = rw e

pub name_no_time : {x : tree.Place} {n : ℕ} → x ≡ fixed (Name n) → as_time x ≡ None
unfolding as_time
name_no_time e = rw e

pub bound_no_name : {x : tree.Place} {i : ℕ} → x ≡ bound i → as_name x ≡ None
unfolding as_name
bound_no_name e = rw e

pub time_no_name : {x : tree.Place} {t : Time} → x ≡ fixed (When t) → as_name x ≡ None
unfolding as_name
time_no_name e = rw e

-- What reading a place tells: the terms are put in, and the place after it.
abbrev PlaceTold : List ℕ → Terms → ℕ → Option (Place × ℕ) → Type 0
PlaceTold bytes terms at r = PlaceReadsIfAny bytes at terms 0 r

-- What is read there is told, and where nothing is told nothing is read.
record OnePlace (found : Place) (next : ℕ) (terms : Terms) (x : tree.Place) (e : ℕ) : Type 0 where
  is : FewTerms terms → place_of found ≡ fill_place 0 (terms_of terms) x
  ends : next ≡ e

one_place : (bytes : List ℕ) {terms : Terms} (at : ℕ) {found : Place} {next : ℕ} → PlaceTold bytes terms at (Some (found, next))
    → (sorts : List Sort) (x : tree.Place) (e : ℕ) → argument bytes sorts at ≡ Some (x, e) → OnePlace found next terms x e
one_place bytes at {found} {next} told sorts x e reads =
    let there = told sorts x e reads in
    let same = same_Some (found, next) (there.0, e) there.1 in
    record { is = λ few. ap (λ p. place_of p.0) same ∙ there.2 few; ends = ap (λ p. p.1) same }

pub no_place : (bytes : List ℕ) {terms : Terms} (at : ℕ) → PlaceTold bytes terms at None
    → (sorts : List Sort) (x : tree.Place) (e : ℕ) → argument bytes sorts at ≡ Some (x, e) → ⊥
no_place bytes at told sorts x e reads = none-some _ (told sorts x e reads).1

-- ── Two places ──

-- What two places in a row are.
pub record Placed (one other : Place) (next : ℕ) (x y : tree.Place) (end : ℕ) : Type 0 where
  pub first : place_of one ≡ x
  pub second : place_of other ≡ y
  pub ends : next ≡ end

abbrev pub PlacesTold : List ℕ → Terms → ℕ → Place → Place → ℕ → Type 0
PlacesTold bytes terms at one other next =
    (sorts : List Sort) (x y : tree.Place) (middle end : ℕ) → FewTerms terms
    → argument bytes sorts at ≡ Some (x, middle) → argument bytes sorts middle ≡ Some (y, end)
    → Placed one other next (fill_place 0 (terms_of terms) x) (fill_place 0 (terms_of terms) y) end

pub both_placed : (bytes : List ℕ) {terms : Terms} (at : ℕ) {one other : Place} {between next : ℕ}
    → PlaceTold bytes terms at (Some (one, between)) → PlaceTold bytes terms between (Some (other, next)) → PlacesTold bytes terms at one other next
both_placed bytes {terms} at {one} {other} {between} f g sorts x y middle end few e h =
    let a = one_place bytes at f sorts x middle e in
    let b = one_place bytes between g sorts y end (rw a.ends h) in
    record { first = a.is few; second = b.is few; ends = b.ends }

-- Where a second place is, it is told.
pub no_second_place : (bytes : List ℕ) {terms : Terms} (at : ℕ) {one : Place} {between : ℕ}
    → PlaceTold bytes terms at (Some (one, between)) → PlaceTold bytes terms between None
    → (sorts : List Sort) (x y : tree.Place) (middle end : ℕ)
    → argument bytes sorts at ≡ Some (x, middle) → argument bytes sorts middle ≡ Some (y, end) → ⊥
no_second_place bytes at {between = between} f g sorts x y middle end e h =
    no_place bytes between g sorts y end (rw (one_place bytes at f sorts x middle e).ends h)

-- What reading two times tells.
abbrev SpanTold : List ℕ → Terms → ℕ → ℕ → Ledger → Span → Type 0
SpanTold bytes terms at q l r =
    (sorts : List Sort) (x y : tree.Place) (middle end : ℕ) → FewTerms terms
    → argument bytes sorts at ≡ Some (x, middle) → argument bytes sorts middle ≡ Some (y, end)
    → Takes (two_times q (fill_place 0 (terms_of terms) x) (fill_place 0 (terms_of terms) y)) q l r.ledger
    (λ t. (r.from ≡ t.0) × (r.to ≡ t.1) × (r.next ≡ end))

-- ── Formulas ──

-- Who says, and what, as the code reads them.
pub record SaysRead (bytes : List ℕ) (f : FormulaAt) (F : Formula) (place : Place) (next : ℕ) : Type 0 where
  pub who : tree.Place
  pub said : Formula
  pub is : F ≡ says who said
  pub named : place_of place ≡ who
  pub means : Means bytes 0 (begin f next) said

module _ {bytes : List ℕ} {f : FormulaAt} {F : Formula} (m : Means bytes 0 f F) {at : ℕ} (next : After bytes f.at at) where
  -- The two times of an "at" or of an order.
  span_there : (q : ℕ) {l : Ledger} {span : Span} {x y : tree.Place} {middle end : ℕ} → Stands bytes 0 f m.sorts (f.at + 1) x middle
      → Stands bytes 0 f m.sorts middle y end → SpanTold bytes f.terms at q l span
      → Takes (two_times q x y) q l span.ledger (λ t. (span.from ≡ t.0) × (span.to ≡ t.1) × (span.next ≡ end))
  span_there q {middle = middle} {end} one other told =
      let reads : argument bytes m.sorts at ≡ Some (one.written, middle) = rw (next (inside bytes 0 f m)) one.reads in
      rw (one.filled, other.filled) at (told m.sorts one.written other.written middle end m.few reads other.reads)

  -- An "at", on its own interval.
  pub at_taken : (q : ℕ) {l : Ledger} {span : Span} {part : Judgement} → tag_of bytes f.at ≡ Some AtTag → SpanTold bytes f.terms at q l span
      → part ≡ record { formula = begin f span.next; from = span.from; to = span.to }
      → Takes (at_parts q F) q l span.ledger (λ x. On bytes part x.0 x.1 x.2)
  at_taken q tag told e =
      let s = at_shape bytes 0 f m tag in
      takes_then (at_parts q F) (λ t. (s.body, t.0, t.1)) (at_there q s.is)
      (λ t so. rw (e, so.0, so.1, so.2) (record { means = s.part.means; from = refl; to = refl }))
      (span_there q s.first s.second told)

  -- An order, asked.
  pub order_taken : (q : ℕ) {state : List ℕ} {list : List Fact} {l r : Ledger} {span : Span} → tag_of bytes f.at ≡ Some OrderTag
      → SpanTold bytes f.terms at q l span → Sound (book l list)
      → (Sound (book span.ledger list) → Gives state (book span.ledger list) (ask_order q span.from span.to) (book r list) tt)
      → Gives state (book l list) (order_goal q F) (book r list) tt
  order_taken q {state} {list} {l} {r} {span} tag told sound ask =
      let s = order_shape bytes 0 f m tag in
      let first = span_given (span_there q s.first s.second told) in
      rw (order_there q s.is)
      (then state (book l list) (book span.ledger list) (book r list) (two_times q s.left s.right) (span.from, span.to)
      (λ t. ask_order q t.0 t.1) tt first (ask first.sound))
    where
      span_given : {w : Walk (Time × Time)} {end : ℕ}
          → Takes w q l span.ledger (λ t. (span.from ≡ t.0) × (span.to ≡ t.1) × (span.next ≡ end))
          → Gives state (book l list) w (book span.ledger list) (span.from, span.to)
      span_given (takes t d e so) = rw (e, so.0, so.1) (passes sound d)
      span_given (unfit d e) = stops sound d e

  -- Who says, and what.
  pub says_read : {place : Place} {after : ℕ} → tag_of bytes f.at ≡ Some SaysTag → PlaceTold bytes f.terms at (Some (place, after))
      → SaysRead bytes f F place after
  says_read tag told =
      let s = says_shape bytes 0 f m tag in
      let n = next (inside bytes 0 f m) in
      let e : argument bytes m.sorts at ≡ Some (s.named.written, s.after) = rw n s.named.reads in
      let one = one_place bytes at told m.sorts s.named.written s.after e in
      record { who = s.who; said = s.said; is = s.is; named = one.is m.few ∙ s.named.filled; means = rw one.ends s.part.means }

  pub somebody_says : tag_of bytes f.at ≡ Some SaysTag → PlaceTold bytes f.terms at None → ⊥
  somebody_says tag told =
      let s = says_shape bytes 0 f m tag in
      let n = next (inside bytes 0 f m) in
      no_place bytes at told m.sorts s.named.written s.after (rw n s.named.reads)

-- ── State facts ──

module _ {bytes : List ℕ} {f : FormulaAt} {F : Formula} (m : Means bytes 0 f F) (q : ℕ) (tag : tag_of bytes f.at ≡ Some FactTag) where
  -- What is told of the places of a fact.
  abbrev FactTold : Option Fact → Type 0
  FactTold r = (p : ℕ) (xs : List tree.Place) → Means bytes 0 f (fact p xs) → SpellsPlaces p xs r

  spelled_there : (r : Option Fact) → FactTold r → let s = fact_shape bytes 0 f m tag in SpellsPlaces s.predicate s.places r
  spelled_there r told =
      let s = fact_shape bytes 0 f m tag in
      told s.predicate s.places (rw s.is at m)

  -- A variable is left in it.
  pub fact_open : FactTold None → fact_goal q F ≡ misfit q
  unfolding SpellsPlaces
  fact_open told = no_terms q (fact_shape bytes 0 f m tag).is (spelled_there None told)

  -- It is asked.
  pub fact_taken : (g : Fact) → FactTold (Some g) → {state : List ℕ} {list after : List Fact} {l a : Ledger}
      → (g ≡ fact_of (spelled g) → Gives state (book l list) (ask_fact q (spelled g)) (book a after) tt)
      → Gives state (book l list) (fact_goal q F) (book a after) tt
  unfolding SpellsPlaces
  fact_taken g told ask =
      let (ts, h, there, spells, in_form) = spelled_there (Some g) told in
      rw (fact_there q h (fact_shape bytes 0 f m tag).is there, ← spells) (ask in_form)
