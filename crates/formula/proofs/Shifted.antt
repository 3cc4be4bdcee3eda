-- What is read in a part of a buffer is read in the buffer too, as much later as the part begins.
use Prim.Native.Nat.{ℕ, zero, suc, ◌+◌, ◌≤◌}
use mathlib.Core.Path.{◌≡◌, refl, ap, ◌∙◌}
use mathlib.Core.Bool.{Bool, true, false}
use mathlib.Core.List.{List, [], ◌∷◌}
use Rattle.std.specs.Prelude.{None, Option, Some}
use native.Mathlib.Omega.{arith}
use borrow.Author.Tests.{le-leb, leb-true}
use lib.ListN.{length, take, drop, length-drop}
use lib.Seq.{length-take-le, take-take, drop-drop}
use lib.Dec.{leb}
use Rattle.procap.specs.Tells.{pick}
use Rattle.procap.specs.Bytes.{Reader, then, ◌>>=◌, give, present, fail, ensure, many, next, number, term_tag, term_by, predicate_and, whole}
use Rattle.procap.specs.declared.tag.TermTag.{TermTag}
use Rattle.procap.specs.declared.tag.TermTag.TheVariants.{NameTag, MomentTag, MinusInfinityTag, PlusInfinityTag, CtimeTag, VariableTag}
use Rattle.procap.proofs.ReadApart.{at_the_end}
use Rattle.bl.specs.declared.FormulaTag.{FormulaTag}
use Rattle.bl.specs.declared.FormulaTag.TheVariants.{TopTag, AndTag, ImpliesTag, AllNamesTag, AllTimesTag, SaysTag, AtTag, AtomTag, FactTag, OrderTag, OrTag, FalsityTag}
use Rattle.bl.specs.declared.Sort.{Sort}
use Rattle.bl.specs.declared.Sort.TheVariants.{Names, Times}
use Rattle.bl.specs.Trees.{Formula}
use Rattle.bl.specs.Tags.{formula_tag}
use Rattle.bl.specs.Formulas.{most_formula_levels, fixed_by, place_by, argument, place, for_all, formula_by, formula, formula_in}

-- ── What is found here is found there, so much later ──

data Shifted {A : Type 0} (start : ℕ) : Option (A × ℕ) → Option (A × ℕ) → Type 0 where
  nothing : {there : Option (A × ℕ)} → Shifted start None there
  later : {a : A} {e : ℕ} → Shifted start (Some (a, e)) (Some (a, start + e))

-- What one reader finds at a place, another finds so much later, and it ends as much later.
record Shifts {A : Type 0} (start : ℕ) (here there : Reader A) : Type 0 where
  at_each : (at : ℕ) → Shifted start (here at) (there (start + at))

found_later : {A : Type 0} {start : ℕ} {here there : Reader A} → Shifts start here there → (at : ℕ) (a : A) (e : ℕ) → here at ≡ Some (a, e)
    → there (start + at) ≡ Some (a, start + e)
found_later {A} {start} {here} {there} h at a e q = by (there (start + at)) (rw q at (h.at_each at))
  where
    by : (o : Option (A × ℕ)) → Shifted start (Some (a, e)) o → o ≡ Some (a, start + e)
    by o later = refl

-- ── Readers one after another ──

module _ {start : ℕ} where
  give_shifts : {A : Type 0} {a : A} → Shifts start (give a) (give a)
  give_shifts = record { at_each = λ at. later }

  fail_shifts : {A : Type 0} → Shifts start (fail {A = A}) fail
  fail_shifts = record { at_each = λ at. nothing }

  present_shifts : {A : Type 0} (o : Option A) → Shifts start (present o) (present o)
  unfolding present
  present_shifts {A} o = record { at_each = by o }
    where
      by : (o : Option A) (at : ℕ) → Shifted start (present o at) (present o (start + at))
      by (Some a) at = later
      by None at = nothing

  ensure_shifts : (b : Bool) → Shifts start (ensure b) (ensure b)
  unfolding ensure
  ensure_shifts b = record { at_each = by b }
    where
      by : (b : Bool) (at : ℕ) → Shifted start (ensure b at) (ensure b (start + at))
      by true at = later
      by false at = nothing

  -- One reader, and then another by what was found.
  both_shift : {A B : Type 0} {here there : Reader A} {f g : A → Reader B} → Shifts start here there → ((a : A) → Shifts start (f a) (g a))
      → Shifts start (here >>= f) (there >>= g)
  unfolding then
  both_shift {A} {B} {here} {there} {f} {g} h k = record { at_each = λ at. by (here at) (there (start + at)) (h.at_each at) }
    where
      by : (o p : Option (A × ℕ)) → Shifted start o p → Shifted start (then o f) (then p g)
      by o p nothing = nothing
      by o p (later {a} {e}) = (k a).at_each e

  -- So many values.
  many_shift : {A : Type 0} (here there : Reader A) → Shifts start here there → (n : ℕ) → Shifts start (many here n) (many there n)
  unfolding many
  many_shift here there h zero = give_shifts
  many_shift here there h (suc n) = both_shift h λ x. both_shift (many_shift here there h n) λ xs. give_shifts

-- ── A part of a buffer ──

-- Bytes inside of the first ones of a list are bytes of the list.
within_first : (bytes : List ℕ) (k at size : ℕ) → at + k ≤ size → take k (drop at (take size bytes)) ≡ take k (drop at bytes)
within_first bytes k zero size l = take-take k size bytes (omega arith)
within_first bytes k (suc at) zero l = absurd (omega arith)
within_first [] k (suc at) (suc size) l = refl
within_first (b ∷ bytes) k (suc at) (suc size) l = within_first bytes k at size (omega arith)

module _ (buffer : List ℕ) (start size : ℕ) (fits : start + size ≤ length buffer) where
  -- The part of the buffer.
  abbrev part : List ℕ
  part = take size (drop start buffer)

  part_length : length part ≡ size
  part_length = length-take-le size (drop start buffer) (omega (arith, length-drop start buffer))

  next_shifts : (k : ℕ) → Shifts start (next part k) (next buffer k)
  unfolding next
  next_shifts k = record { at_each = λ at. by at (leb (at + k) (length part)) refl }
    where
      by : (at : ℕ) (b : Bool) → leb (at + k) (length part) ≡ b
          → Shifted start (pick b (Some (take k (drop at part), at + k)) None) (next buffer k (start + at))
      by at true e =
          let l = leb-true (at + k) (length part) e in
          let same : take k (drop at part) ≡ take k (drop (start + at) buffer) =
          within_first (drop start buffer) k at size (omega (arith, part_length)) ∙ ap (take k) (drop-drop at start buffer) in
          let end : start + at + k ≡ start + (at + k) = omega arith in
          rw (le-leb (start + at + k) (length buffer) (omega (arith, part_length)), same, end) later
      by at false e = nothing

  number_shifts : (k : ℕ) → Shifts start (number part k) (number buffer k)
  unfolding number
  number_shifts k = both_shift (next_shifts k) λ bs. give_shifts

  term_by_shifts : (tag : TermTag) → Shifts start (term_by part tag) (term_by buffer tag)
  unfolding term_by
  term_by_shifts NameTag = both_shift (number_shifts 2) λ n. give_shifts
  term_by_shifts MomentTag = both_shift (number_shifts 5) λ k. give_shifts
  term_by_shifts MinusInfinityTag = give_shifts
  term_by_shifts PlusInfinityTag = give_shifts
  term_by_shifts CtimeTag = give_shifts
  term_by_shifts VariableTag = fail_shifts

  predicate_shifts : {A : Type 0} (here there : Reader A) → Shifts start here there → Shifts start (predicate_and part here) (predicate_and buffer there)
  unfolding predicate_and
  predicate_shifts here there h =
      both_shift (number_shifts 2) λ p.
      both_shift (number_shifts 1) λ n.
      both_shift (ensure_shifts _) λ _.
      both_shift (many_shift here there h n) λ xs.
      give_shifts

  fixed_by_shifts : (tag : TermTag) → Shifts start (fixed_by part tag) (fixed_by buffer tag)
  unfolding fixed_by
  fixed_by_shifts tag = both_shift (term_by_shifts tag) λ t. give_shifts

  -- ── Formulas ──

  module _ (sorts : List Sort) where
    place_by_shifts : (tag : TermTag) → Shifts start (place_by part sorts tag) (place_by buffer sorts tag)
    unfolding place_by
    place_by_shifts NameTag = fixed_by_shifts NameTag
    place_by_shifts MomentTag = fixed_by_shifts MomentTag
    place_by_shifts MinusInfinityTag = fixed_by_shifts MinusInfinityTag
    place_by_shifts PlusInfinityTag = fixed_by_shifts PlusInfinityTag
    place_by_shifts CtimeTag = fail_shifts
    place_by_shifts VariableTag =
        both_shift (number_shifts 1) λ i.
        both_shift (ensure_shifts _) λ _.
        give_shifts

    argument_shifts : Shifts start (argument part sorts) (argument buffer sorts)
    unfolding argument
    argument_shifts =
        both_shift (number_shifts 1) λ b.
        both_shift (present_shifts (term_tag b)) λ tag.
        place_by_shifts tag

    place_shifts : (s : Sort) → Shifts start (place part s sorts) (place buffer s sorts)
    unfolding place
    place_shifts s =
        both_shift argument_shifts λ x.
        both_shift (ensure_shifts _) λ _.
        give_shifts

    arguments_shift : Shifts start (predicate_and part (argument part sorts)) (predicate_and buffer (argument buffer sorts))
    arguments_shift = predicate_shifts (argument part sorts) (argument buffer sorts) argument_shifts

  -- A formula by its tag, over readers of the level below.
  module _ (here there : List Sort → Reader Formula) (below : (sorts : List Sort) → Shifts start (here sorts) (there sorts)) (sorts : List Sort) where
    for_all_shifts : (s : Sort) → Shifts start (for_all part here sorts s) (for_all buffer there sorts s)
    unfolding for_all
    for_all_shifts s =
        both_shift (ensure_shifts _) λ _.
        both_shift (below (s ∷ sorts)) λ A.
        give_shifts

    formula_by_shifts : (tag : FormulaTag) → Shifts start (formula_by part here sorts tag) (formula_by buffer there sorts tag)
    unfolding formula_by
    formula_by_shifts TopTag = give_shifts
    formula_by_shifts AndTag =
        both_shift (below sorts) λ A.
        both_shift (below sorts) λ B.
        give_shifts
    formula_by_shifts ImpliesTag =
        both_shift (below sorts) λ A.
        both_shift (below sorts) λ B.
        give_shifts
    formula_by_shifts AllNamesTag = for_all_shifts Names
    formula_by_shifts AllTimesTag = for_all_shifts Times
    formula_by_shifts SaysTag =
        both_shift (place_shifts sorts Names) λ k.
        both_shift (below sorts) λ A.
        give_shifts
    formula_by_shifts AtTag =
        both_shift (place_shifts sorts Times) λ t1.
        both_shift (place_shifts sorts Times) λ t2.
        both_shift (below sorts) λ A.
        give_shifts
    formula_by_shifts AtomTag = both_shift (arguments_shift sorts) λ x. give_shifts
    formula_by_shifts FactTag = both_shift (arguments_shift sorts) λ x. give_shifts
    formula_by_shifts OrderTag =
        both_shift (place_shifts sorts Times) λ t1.
        both_shift (place_shifts sorts Times) λ t2.
        give_shifts
    formula_by_shifts OrTag =
        both_shift (below sorts) λ A.
        both_shift (below sorts) λ B.
        give_shifts
    formula_by_shifts FalsityTag = give_shifts

  formula_shifts : (n : ℕ) (sorts : List Sort) → Shifts start (formula part n sorts) (formula buffer n sorts)
  unfolding formula
  formula_shifts zero sorts = fail_shifts
  formula_shifts (suc n) sorts =
      both_shift (number_shifts 1) λ b.
      both_shift (present_shifts (formula_tag b)) λ tag.
      formula_by_shifts (formula part n) (formula buffer n) (formula_shifts n) sorts tag

  -- A formula read in the part is read at its place in the buffer.
  formula_shifted : (n : ℕ) (sorts : List Sort) (at : ℕ) (A : Formula) (e : ℕ) → formula (take size (drop start buffer)) n sorts at ≡ Some (A, e)
      → formula buffer n sorts (start + at) ≡ Some (A, start + e)
  formula_shifted n sorts at A e q = found_later (formula_shifts n sorts) at A e q

  -- The formula that takes the whole part is read in the buffer where the part begins, and ends where it ends.
  pub formula_in_shifted : (A : Formula) → formula_in (take size (drop start buffer)) ≡ Some A → formula buffer most_formula_levels [] start ≡ Some (A, start + size)
  unfolding formula_in whole
  formula_in_shifted A q =
      let found = formula_shifted most_formula_levels [] 0 A (length part) (at_the_end part (formula part most_formula_levels [] 0) A q) in
      let from : start + 0 ≡ start = omega arith in
      rw (from, part_length) at found
