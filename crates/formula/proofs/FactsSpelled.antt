-- A fact read from the bytes of a formula spells the places there, if no variable is left among them.
use Prim.Native.Nat.{ℕ, suc, ◌+◌, ◌-◌, ◌≤◌, ◌<◌}
use mathlib.Core.Path.{◌≡◌, refl, sym, ap, subst, subst₂, ◌∙◌}
use mathlib.Core.List.{List, [], ◌∷◌, map}
use Rattle.std.proofs.lemmas.Option.{none-some, same_Some}
use Rattle.std.specs.Prelude.{None, Option, Some, option_map}
use native.Mathlib.Omega.{arith}
use lib.ListN.{length, set}
use Rattle.procap.specs.Lists.{pad}
use Rattle.procap.specs.Facts.{most_terms, no_argument, argument_of, spelled}
use Rattle.procap.specs.Bytes.{Reader, many, number}
use Rattle.procap.specs.Reading.{FactReads, with_predicate}
use Rattle.procap.specs.declared.fact.Term.{Term}
use Rattle.procap.specs.declared.fact.Argument.{Argument}
use Rattle.procap.specs.declared.fact.Fact.{Fact}
use Rattle.procap.proofs.ReadApart.{first_of, none_of}
use Rattle.procap.proofs.ReadSoFar.{led_by, ReadSoFar, none_yet, one_more, none_more, rest_is}
use Rattle.procap.proofs.WithPredicate.{fact_with}
use Rattle.bl.specs.declared.FormulaTag.TheVariants.{FactTag}
use Rattle.bl.specs.declared.Sort.{Sort}
use Rattle.bl.specs.Trees.{Place, fixed, bound, fact}
use Rattle.bl.specs.Formulas.{argument}
use Rattle.bl.specs.Kinds.{as_term, terms_too, as_terms}
use Rattle.formula.specs.declared.terms.Terms.{Terms}
use Rattle.formula.specs.declared.terms.Place as code
use Rattle.formula.specs.declared.terms.Place.TheVariants.{Fixed, Bound}
use Rattle.formula.specs.declared.parts.Head.{Head}
use Rattle.formula.specs.declared.parts.FormulaAt.{FormulaAt}
use Rattle.formula.specs.PutIn.{terms_of, FewTerms, place_of, fill_place}
use Rattle.formula.specs.Meaning.{tag_of, Means, PlaceReadsIfAny, HeadReads, SpellsPlaces}
use Rattle.formula.proofs.PartsRead.{EndsAt, next_of}
use Rattle.formula.proofs.Shapes.{kind, tag_is, inside, fact_shape}

-- ── Places as terms ──

-- The terms that places were seen as, as if they were read.
unfoldable pub seen : {xs : List Place} → Option ((ts : List Term) × (xs ≡ map fixed ts)) → Option (List Term × ℕ)
seen None = None
seen (Some t) = Some (t.0, 0)

abbrev terms_in : List Place → Option (List Term × ℕ)
terms_in xs = seen (as_terms xs)

-- No places are no terms; a term goes before the others; after a variable there are none.
no_terms_in : terms_in [] ≡ Some ([], 0)
unfolding seen as_terms
no_terms_in = refl

fixed_before : (t : Term) (xs : List Place) → terms_in (fixed t ∷ xs) ≡ led_by (t ∷ []) (terms_in xs)
unfolding seen as_terms as_term terms_too led_by
fixed_before t xs = by (as_terms xs)
  where
    by : (o : Option ((ts : List Term) × (xs ≡ map fixed ts))) → seen (terms_too {x = fixed t} (Some (t, refl)) o) ≡ led_by (t ∷ []) (seen o)
    by None = refl
    by (Some u) = refl

bound_before : (j : ℕ) (xs : List Place) → terms_in (bound j ∷ xs) ≡ None
unfolding seen as_terms as_term terms_too
bound_before j xs = refl

-- What is not seen so is not so, and a fact of the terms seen spells the places.
not_terms : (xs : List Place) → terms_in xs ≡ None → as_terms xs ≡ None
unfolding seen
not_terms xs e = by (as_terms xs) e
  where
    by : (o : Option ((ts : List Term) × (xs ≡ map fixed ts))) → seen o ≡ None → o ≡ None
    by None q = refl
    by (Some u) q = absurd (none-some (u.0, 0) (sym q))

spells_terms : (p : ℕ) (xs : List Place) (f : Fact) → FactReads (with_predicate p (terms_in xs)) (Some (f, 0)) → SpellsPlaces p xs (Some f)
unfolding seen SpellsPlaces
spells_terms p xs f h = by (as_terms xs) refl h
  where
    by : (o : Option ((ts : List Term) × (xs ≡ map fixed ts))) → as_terms xs ≡ o → FactReads (with_predicate p (seen o)) (Some (f, 0)) → SpellsPlaces p xs (Some f)
    by None q h = absurd (none-some (spelled f, 0) h.0)
    by (Some u) q h = (u.0, u.1, q, ap (λ s. s.0) (sym (same_Some ((p, u.0), 0) (spelled f, 0) h.0)), h.1)

-- ── Places read one after another ──

-- The places with the terms put in for their variables.
abbrev filled : Terms → List Place → List Place
filled terms xs = map (fill_place 0 (terms_of terms)) xs

first_filled : (terms : Terms) (xs : List Place) (y : Place) (ys : List Place) (x : Place) → xs ≡ (y ∷ ys) → x ≡ fill_place 0 (terms_of terms) y
    → terms_in (filled terms xs) ≡ terms_in (x ∷ filled terms ys)
first_filled terms xs y ys x e f = rw (e, f) refl

-- Of some places i are read and are terms, kept in the array of a fact, and the others are still to be read.
pub record TermsKept (terms : Terms) (r : Reader Place) (xs : List Place) (e more next : ℕ) (arguments : List Argument) (i : ℕ) : Type 0 where
  pub left : List Place
  pub reads : many r more next ≡ Some (left, e)
  pub kept : ReadSoFar most_terms no_argument argument_of (terms_in (filled terms xs)) (terms_in (filled terms left)) arguments i

-- The same, if the reader finds so many places from one on.
pub record PlacesKept (bytes : List ℕ) (terms : Terms) (count at : ℕ) (arguments : List Argument) (next i : ℕ) : Type 0 where
  pub few : i ≤ count
  pub so_far : (sorts : List Sort) (xs : List Place) (e : ℕ) → FewTerms terms → many (argument bytes sorts) count at ≡ Some (xs, e)
      → TermsKept terms (argument bytes sorts) xs e (count - i) next arguments i

module _ {bytes : List ℕ} {terms : Terms} {count at : ℕ} {arguments : List Argument} where
  -- Nothing yet.
  pub none_kept : arguments ≡ pad most_terms no_argument [] → PlacesKept bytes terms count at arguments at 0
  none_kept e = record {
    few = omega arith;
    so_far = λ sorts xs _ few h. record {
      left = xs;
      reads = ap (λ k. many (argument bytes sorts) k at) (omega arith) ∙ h;
      kept = none_yet refl e;
    };
  }

  module _ {next i : ℕ} (h : PlacesKept bytes terms count at arguments next i) (l : i < count) where
    -- Where there is no next place there are not so many.
    pub place_missing : PlaceReadsIfAny bytes next terms 0 None → (sorts : List Sort) (xs : List Place) (e : ℕ) → FewTerms terms
        → many (argument bytes sorts) count at ≡ Some (xs, e) → as_terms (filled terms xs) ≡ None
    place_missing found sorts xs e few q =
        let before = h.so_far sorts xs e few q in
        let one_less : count - i ≡ suc (count - (i + 1)) = omega arith in
        let one = first_of (argument bytes sorts) (count - (i + 1)) next before.left e (rw one_less at before.reads) in
        absurd (none-some _ (found sorts one.first one.next one.first_reads).1)

    module _ (place : code.Place) (after : ℕ) (found : PlaceReadsIfAny bytes next terms 0 (Some (place, after))) where
      -- The next place, which is what was handed back, and those after it.
      record NextPlace (x : Place) (sorts : List Sort) (xs : List Place) (e : ℕ) : Type 0 where
        rest : List Place
        reads : many (argument bytes sorts) (count - (i + 1)) after ≡ Some (rest, e)
        kept : ReadSoFar most_terms no_argument argument_of (terms_in (filled terms xs)) (terms_in (x ∷ filled terms rest)) arguments i

      next_place : (x : Place) → place_of place ≡ x → (sorts : List Sort) (xs : List Place) (e : ℕ) → FewTerms terms
          → many (argument bytes sorts) count at ≡ Some (xs, e) → NextPlace x sorts xs e
      next_place x is sorts xs e few q =
          let before = h.so_far sorts xs e few q in
          let ends : EndsAt (argument bytes sorts next) (Some after) = λ y e r. ap (option_map (λ p. p.1)) (found sorts y e r).1 in
          let one = next_of (argument bytes sorts) count i next after before.left e l ends before.reads in
          let there = found sorts one.value after one.reads in
          let same = same_Some (place, after) (there.0, after) there.1 in
          record {
            rest = one.rest;
            reads = one.more;
            kept = rest_is before.kept _ (first_filled terms before.left one.value one.rest x one.is
                (sym is ∙ ap (λ p. place_of p.0) same ∙ there.2 few));
          }

      -- A term more.
      pub one_kept : (t : Term) → place ≡ Fixed t → count ≤ most_terms → PlacesKept bytes terms count at (set arguments i (argument_of t)) after (i + 1)
      unfolding place_of
      one_kept t e m = record {
        few = omega arith;
        so_far = λ sorts xs end few q.
            let one = next_place (fixed t) (ap place_of e) sorts xs end few q in
            record {
              left = one.rest;
              reads = one.reads;
              kept = one_more one.kept t _ (omega arith) refl (fixed_before t _);
            };
      }

      -- A variable leaves no fact.
      pub variable_left : (j : ℕ) → place ≡ Bound j → (sorts : List Sort) (xs : List Place) (e : ℕ) → FewTerms terms → many (argument bytes sorts) count at ≡ Some (xs, e)
          → as_terms (filled terms xs) ≡ None
      unfolding place_of
      variable_left j e sorts xs end few q =
          let one = next_place (bound j) (ap place_of e) sorts xs end few q in
          not_terms _ (none_more one.kept (bound_before j _))

  -- All of them.
  pub all_kept : {next i : ℕ} → PlacesKept bytes terms count at arguments next i → count ≤ i → (p : ℕ)
      → (sorts : List Sort) (xs : List Place) (e : ℕ) → FewTerms terms → many (argument bytes sorts) count at ≡ Some (xs, e)
      → SpellsPlaces p (filled terms xs) (Some (record { predicate = p; count = count; arguments = arguments }))
  all_kept {next} {i} h l p sorts xs e few q =
      let all : i ≡ count = omega (arith, h.few) in
      let before = h.so_far sorts xs e few q in
      let done = none_of (argument bytes sorts) (count - i) next before.left e (omega arith) before.reads in
      spells_terms p _ _ (fact_with p (rw all at before.kept) 0 (ap (λ ys. terms_in (filled terms ys)) done.0 ∙ no_terms_in))

-- ── The fact that a formula is ──

-- A formula that means a fact has its tag.
fact_tagged : (bytes : List ℕ) (f : FormulaAt) (p : ℕ) (xs : List Place) → Means bytes 0 f (fact p xs) → tag_of bytes f.at ≡ Some FactTag
unfolding kind
fact_tagged bytes f p xs m = tag_is bytes 0 f m refl

-- The code's head of it: the predicate, and as many places as the fact has.
record FactHeaded (bytes : List ℕ) (f : FormulaAt) (head : Head) (p : ℕ) (xs : List Place) (sorts : List Sort) (e : ℕ) : Type 0 where
  written : List Place
  few : head.count ≤ most_terms
  predicate : head.predicate ≡ p
  reads : many (argument bytes sorts) head.count head.next ≡ Some (written, e)
  is : filled f.terms written ≡ xs

module _ (bytes : List ℕ) (f : FormulaAt) (after : ℕ) (past : f.at < length bytes → after ≡ f.at + 1)
    (p : ℕ) (xs : List Place) (m : Means bytes 0 f (fact p xs)) where
  fact_headed : (r : Option Head) → HeadReads bytes after r
      → (head : Head) × (r ≡ Some head) × FactHeaded bytes f head p xs m.sorts m.end
  fact_headed r found =
      let shape = fact_shape bytes 0 f m (fact_tagged bytes f p xs m) in
      let headed = shape.headed in
      let is = shape.is in
      let there = found shape.predicate headed.count headed.after_predicate headed.after_count
      (ap (number bytes 2) (past (inside bytes 0 f m)) ∙ headed.predicate_reads) headed.count_reads in (
        _,
        there,
        record {
          written = headed.written;
          few = headed.few;
          predicate = cc;
          reads = headed.places_read;
          is = headed.filled ∙ cc;
        },
      )

  -- There is a head, with no more terms than a fact may have; and what its places spell the fact spells.
  pub no_head_read : HeadReads bytes after None → ⊥
  no_head_read found = none-some _ (fact_headed None found).1

  module _ (head : Head) (found : HeadReads bytes after (Some head)) where
    headed_so : FactHeaded bytes f head p xs m.sorts m.end
    headed_so =
        let there = fact_headed (Some head) found in
        subst (λ h. FactHeaded bytes f h p xs m.sorts m.end) (sym (same_Some head there.0 there.1)) there.2

    pub few_read : head.count ≤ most_terms
    few_read = headed_so.few

    pub spells_fact : (g : Option Fact)
        → ((sorts : List Sort) (ys : List Place) (e : ℕ) → FewTerms f.terms → many (argument bytes sorts) head.count head.next ≡ Some (ys, e)
        → SpellsPlaces head.predicate (filled f.terms ys) g)
        → SpellsPlaces p xs g
    spells_fact g h =
        let r = headed_so in
        subst₂ (λ q ys. SpellsPlaces q ys g) r.predicate r.is (h m.sorts r.written m.end m.few r.reads)
