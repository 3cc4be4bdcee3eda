-- Laws of readers by where they end: one after another, a place of a sort, so many arguments, and a formula by its tag.
use Prim.Native.Nat.{ℕ, zero, suc, ◌+◌, ◌-◌, ◌≤◌, ◌<◌}
use mathlib.Core.Path.{◌≡◌, refl, sym, ap, ◌∙◌}
use mathlib.Core.Bool.{true, false}
use mathlib.Core.List.{List, [], ◌∷◌}
use mathlib.Core.Logic.{◌⊎◌, inl, inr}
use Rattle.std.proofs.lemmas.Option.{none-some, same_Some}
use Rattle.std.specs.Option.{option_eq}
use Rattle.std.specs.Prelude.{None, Option, Some}
use native.Mathlib.Omega.{arith}
use native.Mathlib.Decide.{dec_lt}
use native.Mathlib.Numerals.{sub-one}
use borrow.Author.Tests.{le-leb, lt-leb, lt-ltb, le-ltb}
use lib.ListN.{length}
use lib.Dec.{eqb, ltb}
use Rattle.procap.specs.Tells.{Tells, pick}
use Rattle.procap.specs.Lists.{nth}
use Rattle.procap.specs.Facts.{most_terms}
use Rattle.procap.specs.Bytes.{Reader, then, ◌>>=◌, present, ensure, many, number, byte, term_tag, term_by, predicate_and, to_the_end, whole}
use Rattle.procap.specs.declared.tag.TermTag.{TermTag}
use Rattle.procap.specs.declared.tag.TermTag.TheVariants.{VariableTag}
use Rattle.procap.specs.declared.fact.Term.{Term}
use Rattle.procap.specs.declared.fact.Term.TheVariants.{Name, When}
use Rattle.procap.specs.declared.time.Time.{Time}
use Rattle.procap.proofs.Telling.{tells_picked}
use Rattle.procap.proofs.ReadApart.{not_read, from_tag}
use Rattle.bl.specs.declared.FormulaTag.{FormulaTag}
use Rattle.bl.specs.declared.FormulaTag.TheVariants.{TopTag, AndTag, ImpliesTag, AllNamesTag, AllTimesTag, SaysTag, AtTag, AtomTag, FactTag, OrderTag, OrTag, FalsityTag}
use Rattle.bl.specs.declared.Sort.{Sort}
use Rattle.bl.specs.declared.Sort.TheVariants.{Names, Times}
use Rattle.bl.specs.Trees.{fixed, bound, Formula, top, and, implies, at, order, or, falsity}
use Rattle.bl.specs.Tags.{formula_tag}
use Rattle.bl.specs.Formulas.{most_formula_levels, most_binders, variable_of, place_of, fixed_by, place_by, argument, place, for_all, formula_by, formula, formula_in}
use Rattle.formula.specs.Meaning.{tag_of}
use Rattle.formula.specs.Ends.{Ends, OfSort, PlaceEnds, both_sides, two_times}

-- ── One reader after another ──

module _ {A B : Type 0} (o : Option (A × ℕ)) where
  -- After what is not there there is nothing; else it goes on from what was read.
  none_after : (f : A → Reader B) → o ≡ None → then o f ≡ None
  unfolding then
  none_after f e = rw e

  goes_on : (f : A → Reader B) (a : A) (e : ℕ) (r : Option ℕ) → o ≡ Some (a, e) → Ends (f a e) r → Ends (then o f) r
  unfolding then
  goes_on f a e r q h = rw q h

  -- A value made of what was read ends there too.
  made_of : (f : A → B) (r : Option ℕ) → Ends o r → Ends (then o (λ a at. Some (f a, at))) r
  unfolding then
  made_of f (Some e) h = rw h.1 (f h.0, refl)
  made_of f None h = rw h refl

-- One reader and another, and a value made of both.
both_ended : {A B C : Type 0} (o : Option (A × ℕ)) (g : Reader B) (f : A → B → C) (e : ℕ) (r : Option ℕ) → Ends o (Some e) → Ends (g e) r
    → Ends (then o (λ a at. then (g at) (λ x at. Some (f a x, at)))) r
both_ended o g f e r h k = goes_on o _ h.0 e r h.1 (made_of (g e) (f h.0) r k)

-- To go on from two values one after the other is to go on from both.
paired : {A B C : Type 0} (o : Option (A × ℕ)) (p : Reader B) (g : A → B → Reader C) (r : Option ℕ)
    → Ends (then {A = A × B} (then o (λ a at. then (p at) (λ b at. Some ((a, b), at)))) (λ both. g both.0 both.1)) r
    → Ends (then o (λ a at. then (p at) (g a))) r
unfolding then
paired None p g r h = h
paired {A} {B} (Some x) p g r h = by (p x.1) h
  where
    by : (q : Option (B × ℕ)) → Ends (then {A = A × B} (then q (λ b at. Some ((x.0, b), at))) (λ both. g both.0 both.1)) r → Ends (then q (g x.0)) r
    by None h = h
    by (Some y) h = h

-- ── Places ──

-- Of the sort wanted is what has that sort, and nothing else.
its_sort : (s : Sort) → variable_of s (Some s) ≡ true
unfolding variable_of
its_sort Names = refl
its_sort Times = refl

other_sort : (wanted is : Sort) → (is ≡ wanted → ⊥) → variable_of wanted (Some is) ≡ false
unfolding variable_of
other_sort Names Names n = absurd (n refl)
other_sort Names Times n = refl
other_sort Times Names n = refl
other_sort Times Times n = absurd (n refl)

-- What stands at an index of a list stands inside of it.
nth_inside : {A : Type 0} (xs : List A) (i : ℕ) (x : A) → nth xs i ≡ Some x → i < length xs
unfolding nth
nth_inside [] i x h = absurd (none-some x h)
nth_inside (y ∷ xs) zero x h = omega arith
nth_inside (y ∷ xs) (suc i) x h = let l = nth_inside xs i x h in omega (arith, l)

nth_past : {A : Type 0} (xs : List A) (i : ℕ) → nth xs i ≡ None → length xs ≤ i
unfolding nth
nth_past [] i h = omega arith
nth_past (y ∷ xs) zero h = absurd (none-some y (sym h))
nth_past (y ∷ xs) (suc i) h = let l = nth_past xs i h in omega (arith, l)

module _ (part : List ℕ) (tag : TermTag) (from : ℕ) (sorts : List Sort) where
  -- A term that is not there is no place; a name is a place for names, a time one for times.
  pub no_term : term_by part tag from ≡ None → fixed_by part tag from ≡ None
  unfolding fixed_by
  no_term e = none_after _ _ e

  pub a_name : (x : Term) (n next : ℕ) → x ≡ Name n → term_by part tag from ≡ Some (x, next) → PlaceEnds sorts (fixed_by part tag from) (Some (Names, next))
  unfolding fixed_by then place_of variable_of
  a_name x n next d e = (fixed (Name n), rw (e, d) refl, sort)
    where
      sort : OfSort sorts Names (fixed (Name n))
      sort Names = refl
      sort Times = refl

  pub a_time : (x : Term) (t : Time) (next : ℕ) → x ≡ When t → term_by part tag from ≡ Some (x, next) → PlaceEnds sorts (fixed_by part tag from) (Some (Times, next))
  unfolding fixed_by then place_of variable_of
  a_time x t next d e = (fixed (When t), rw (e, d) refl, sort)
    where
      sort : OfSort sorts Times (fixed (When t))
      sort Names = refl
      sort Times = refl

module _ (part : List ℕ) (sorts : List Sort) (from : ℕ) where
  -- A variable without its index, or without its binder, is no place; else it is of its binder's sort.
  pub no_index : byte part from ≡ None → place_by part sorts VariableTag from ≡ None
  unfolding place_by
  no_index e = none_after _ _ e

  module _ (i next : ℕ) (e : byte part from ≡ Some (i, next)) where
    pub no_binder : nth sorts i ≡ None → place_by part sorts VariableTag from ≡ None
    unfolding place_by then ensure
    no_binder h = rw (e, le-ltb i (length sorts) (nth_past sorts i h)) refl

    pub a_variable : (s : Sort) → nth sorts i ≡ Some s → PlaceEnds sorts (place_by part sorts VariableTag from) (Some (s, next))
    unfolding place_by then ensure place_of
    a_variable s h = (bound i, rw (e, lt-ltb i (length sorts) (nth_inside sorts i s h)) refl, λ wanted. ap (variable_of wanted) h)

  -- Past the end and without a tag there is no argument; else it is the one that its tag announces.
  pub no_argument : byte part from ≡ None → argument part sorts from ≡ None
  unfolding argument
  no_argument e = none_after _ _ e

  module _ (b next : ℕ) (e : byte part from ≡ Some (b, next)) where
    pub untagged_argument : term_tag b ≡ None → argument part sorts from ≡ None
    unfolding argument then present
    untagged_argument f = rw (e, f) refl

    pub argument_by : (tag : TermTag) (r : Option (Sort × ℕ)) → term_tag b ≡ Some tag → PlaceEnds sorts (place_by part sorts tag next) r
        → PlaceEnds sorts (argument part sorts from) r
    unfolding argument then present
    argument_by tag r f h = rw (e, f) h

  -- A place is an argument of the sort wanted there.
  pub no_place : (s : Sort) → argument part sorts from ≡ None → place part s sorts from ≡ None
  unfolding place
  no_place s e = none_after _ _ e

  pub place_of_sort : (s : Sort) (next : ℕ) → PlaceEnds sorts (argument part sorts from) (Some (s, next)) → Ends (place part s sorts from) (Some next)
  unfolding place then ensure
  place_of_sort s next h = rw (h.1, h.2 s, its_sort s) (h.0, refl)

  pub place_of_other : (wanted is : Sort) (next : ℕ) → (is ≡ wanted → ⊥) → PlaceEnds sorts (argument part sorts from) (Some (is, next))
      → place part wanted sorts from ≡ None
  unfolding place then ensure
  place_of_other wanted is next n h = rw (h.1, h.2 wanted, other_sort wanted is n) refl

  -- Two times end where the second does.
  pub no_times : place part Times sorts from ≡ None → two_times part sorts from ≡ None
  unfolding two_times
  no_times e = none_after _ _ e

  pub times_end : (middle : ℕ) (r : Option ℕ) → Ends (place part Times sorts from) (Some middle) → Ends (place part Times sorts middle) r → Ends (two_times part sorts from) r
  unfolding two_times
  times_end middle r h k = goes_on _ _ h.0 middle r h.1 (made_of _ (λ t. (h.0, t)) r k)

-- ── Arguments ──

-- Of so many arguments from a place on, what the rest ends with the whole ends with.
abbrev pub EndsAsRest : {A : Type 0} → Reader A → ℕ → ℕ → ℕ → ℕ → Type 0
EndsAsRest read count from i next = (i ≤ count) × ((r : Option ℕ) → Ends (many read (count - i) next) r → Ends (many read count from) r)

module _ {A : Type 0} (read : Reader A) (count from : ℕ) where
  -- Of those that are left one is the next, and the others are the rest.
  one_and_rest : (i : ℕ) → i < count → count - i ≡ suc (count - (i + 1))
  one_and_rest i l = omega arith

  -- All are left at first; one is passed, or is missing; none is left at last.
  pub all_left : EndsAsRest read count from 0 from
  all_left =
      let all : count - 0 ≡ count = omega arith in
      (omega arith, λ r h. rw all at h)

  module _ (i next : ℕ) (h : EndsAsRest read count from i next) where
    pub one_passed : (x : A) (after : ℕ) → i < count → read next ≡ Some (x, after) → EndsAsRest read count from (i + 1) after
    unfolding many
    one_passed x after l e = (omega arith, λ r k. h.1 r (rw (one_and_rest i l) (goes_on _ _ x after r e (made_of _ (λ xs. x ∷ xs) r k))))

    pub one_missing : i < count → read next ≡ None → many read count from ≡ None
    unfolding many
    one_missing l e = h.1 None (rw (one_and_rest i l) (none_after _ _ e))

    pub none_left : count ≤ i → Ends (many read count from) (Some next)
    unfolding many
    none_left l =
        let done : count - i ≡ 0 = omega (arith, h.0) in
        h.1 (Some next) (rw done ([], refl))

-- A predicate, a count of at most four, and so many arguments.
module _ {A : Type 0} (part : List ℕ) (read : Reader A) (from : ℕ) where
  pub no_predicate : number part 2 from ≡ None → predicate_and part read from ≡ None
  unfolding predicate_and
  no_predicate e = none_after _ _ e

  module _ (p middle : ℕ) (e : number part 2 from ≡ Some (p, middle)) where
    pub no_count : byte part middle ≡ None → predicate_and part read from ≡ None
    unfolding predicate_and then
    no_count f = rw (e, f) refl

    module _ (n next : ℕ) (f : byte part middle ≡ Some (n, next)) where
      pub too_many : most_terms < n → predicate_and part read from ≡ None
      unfolding predicate_and then ensure
      too_many l = rw (e, f, lt-leb n most_terms l) refl

      pub arguments_end : (r : Option ℕ) → n ≤ most_terms → Ends (many read n next) r → Ends (predicate_and part read from) r
      unfolding predicate_and then ensure
      arguments_end r l h = rw (e, f, le-leb n most_terms l) (made_of _ (λ xs. (p, xs)) r h)

-- ── Formulas ──

module _ (part : List ℕ) (sorts : List Sort) (from left : ℕ) where
  -- With no level left, or past the end, there is no formula; else it is the one that its tag announces.
  pub no_level : left ≡ 0 → formula part left sorts from ≡ None
  unfolding formula
  no_level e = rw e

  abbrev By : ℕ → ℕ → Reader Formula
  By k b = present (formula_tag b) >>= λ tag. formula_by part (λ around. formula part k around) sorts tag

  pub untagged_formula : tag_of part from ≡ None → formula part left sorts from ≡ None
  unfolding formula then present
  untagged_formula is = by left
    where
      by : (k : ℕ) → formula part k sorts from ≡ None
      by zero = refl
      by (suc k) = rw (← (from_tag part from (By k) (from + 1) (λ _. refl) refl), is) refl

  pub formula_announced : (announced : FormulaTag) (next : ℕ) (r : Option ℕ) → (left ≡ 0 → ⊥) → tag_of part from ≡ Some announced
      → (from < length part → next ≡ from + 1)
      → Ends (formula_by part (formula part (left - 1)) sorts announced next) r → Ends (formula part left sorts from) r
  unfolding formula then present
  formula_announced announced next r n is after h = by left n h
    where
      by : (k : ℕ) → (k ≡ 0 → ⊥) → Ends (formula_by part (formula part (k - 1)) sorts announced next) r → Ends (formula part k sorts from) r
      by zero n h = absurd (n refl)
      by (suc k) n h = rw (← (from_tag part from (By k) next after refl), is) (rw sub-one at h)

-- One binder more around others, if that is no ninth.
abbrev pub binder_with : Sort → List Sort → Option (List Sort)
binder_with s sorts = pick (ltb (length sorts) most_binders) (Some (s ∷ sorts)) None

-- By its tag, over the readers of the level below.
module _ (part : List ℕ) (below : List Sort → Reader Formula) (sorts : List Sort) (from : ℕ) where
  -- A ninth binder is malformed; one that is no ninth ends where its body does.
  module _ (s : Sort) where
    pub ninth_binder : None ≡ binder_with s sorts → for_all part below sorts s from ≡ None
    unfolding for_all then ensure
    ninth_binder h = by (dec_lt (length sorts) most_binders)
      where
        by : Dec (length sorts < most_binders) → for_all part below sorts s from ≡ None
        by (yes l) = absurd (none-some (s ∷ sorts) (h ∙ ap (λ b. pick b (Some (s ∷ sorts)) None) (lt-ltb (length sorts) most_binders l)))
        by (no m) = rw (le-ltb (length sorts) most_binders (omega (arith, m))) refl

    pub body_ends : (r : Option ℕ) (around : List Sort) → Some around ≡ binder_with s sorts → Ends (below around from) r → Ends (for_all part below sorts s from) r
    unfolding for_all then ensure
    body_ends r around h k = by (dec_lt (length sorts) most_binders)
      where
        by : Dec (length sorts < most_binders) → Ends (for_all part below sorts s from) r
        by (yes l) =
            let same = same_Some around (s ∷ sorts) (h ∙ ap (λ b. pick b (Some (s ∷ sorts)) None) (lt-ltb (length sorts) most_binders l)) in
            rw (lt-ltb (length sorts) most_binders l) (made_of _ _ r (rw same at k))
        by (no m) =
            absurd (none-some around (sym (h ∙ ap (λ b. pick b (Some (s ∷ sorts)) None) (le-ltb (length sorts) most_binders (omega (arith, m))))))

  -- Both sides of a formula, whatever is made of them.
  abbrev pub SidesEndAt : Option ℕ → Type 0
  SidesEndAt r = (make : Formula → Formula → Formula) → Ends (both_sides below sorts make from) r

  pub sides_end : (e : ℕ) (r : Option ℕ) → Ends (below sorts from) (Some e) → Ends (below sorts e) r → SidesEndAt r
  sides_end e r h k make = both_ended _ _ make e r h k

  pub no_first_side : below sorts from ≡ None → SidesEndAt None
  no_first_side h make = none_after _ _ h

  -- The formulas by their tags.
  abbrev EndsBy : FormulaTag → Option ℕ → Type 0
  EndsBy tag r = Ends (formula_by part below sorts tag from) r

  module _ {tag : FormulaTag} where
    pub leaf_ends : (tag ≡ TopTag) ⊎ (tag ≡ FalsityTag) → EndsBy tag (Some from)
    unfolding formula_by
    leaf_ends (inl e) = rw e (top, refl)
    leaf_ends (inr e) = rw e (falsity, refl)

    pub two_sided_ends : (r : Option ℕ) → (tag ≡ AndTag) ⊎ ((tag ≡ ImpliesTag) ⊎ (tag ≡ OrTag)) → SidesEndAt r → EndsBy tag r
    unfolding formula_by
    two_sided_ends r (inl e) h = rw e (h and)
    two_sided_ends r (inr (inl e)) h = rw e (h implies)
    two_sided_ends r (inr (inr e)) h = rw e (h or)

    pub all_names_ends : (r : Option ℕ) → tag ≡ AllNamesTag → Ends (for_all part below sorts Names from) r → EndsBy tag r
    unfolding formula_by
    all_names_ends r e h = rw e h

    pub all_times_ends : (r : Option ℕ) → tag ≡ AllTimesTag → Ends (for_all part below sorts Times from) r → EndsBy tag r
    unfolding formula_by
    all_times_ends r e h = rw e h

    pub says_ends : (m : ℕ) (r : Option ℕ) → tag ≡ SaysTag → Ends (place part Names sorts from) (Some m) → Ends (below sorts m) r → EndsBy tag r
    unfolding formula_by
    says_ends m r e h k = rw e (both_ended _ _ _ m r h k)

    pub nobody_says : tag ≡ SaysTag → place part Names sorts from ≡ None → EndsBy tag None
    unfolding formula_by
    nobody_says e h = rw e (none_after _ _ h)

    pub at_ends : (m : ℕ) (r : Option ℕ) → tag ≡ AtTag → Ends (two_times part sorts from) (Some m) → Ends (below sorts m) r → EndsBy tag r
    unfolding formula_by two_times
    at_ends m r e h k = rw e (paired _ _ _ r (both_ended _ (below sorts) (λ ts. at ts.0 ts.1) m r h k))

    pub at_no_times : tag ≡ AtTag → two_times part sorts from ≡ None → EndsBy tag None
    unfolding formula_by two_times
    at_no_times e h = rw e (paired _ _ _ None (none_after _ _ h))

    pub headed_ends : (r : Option ℕ) → (tag ≡ AtomTag) ⊎ (tag ≡ FactTag) → Ends (predicate_and part (argument part sorts) from) r → EndsBy tag r
    unfolding formula_by
    headed_ends r (inl e) h = rw e (made_of _ _ r h)
    headed_ends r (inr e) h = rw e (made_of _ _ r h)

    pub order_ends : (r : Option ℕ) → tag ≡ OrderTag → Ends (two_times part sorts from) r → EndsBy tag r
    unfolding formula_by two_times
    order_ends r e h = rw e (paired _ _ _ r (made_of _ (λ ts. order ts.0 ts.1) r h))

-- ── A whole part ──

-- A part holds a formula when one is read from its start and ends where the part does.
module _ (part : List ℕ) where
  pub held_to_the_end : (o : Option ℕ) → Ends (formula part most_formula_levels [] 0) o
      → Tells (option_eq eqb o (Some (length part))) ((A : Formula) × (formula_in part ≡ Some A))
  unfolding formula_in whole to_the_end
  held_to_the_end (Some e) h = rw h.1 (tells_picked (eqb e (length part)) h.0)
  held_to_the_end None h = λ x. not_read None refl (rw h at x.1)
