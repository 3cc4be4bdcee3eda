-- Where a formula ends, by its tag: where the last of its parts does.
use Prim.Native.Nat.{ℕ, zero, suc, ◌+◌, ◌-◌, ◌≤◌, ◌<◌}
use mathlib.Core.Path.{◌≡◌, refl}
use mathlib.Core.List.{List, ◌∷◌}
use mathlib.Core.Logic.{◌⊎◌, inl, inr}
use Rattle.std.specs.Prelude.{None, Option, Some}
use native.Mathlib.Omega.{arith}
use lib.ListN.{length}
use Rattle.procap.specs.Bytes.{then, give, present, predicate_and}
use Rattle.procap.proofs.Readers.{IfRead, unread, read, so_read, then_read, ensure_read}
use Rattle.procap.proofs.ReadApart.{if_read, not_read, byte_then}
use Rattle.bl.specs.declared.FormulaTag.{FormulaTag}
use Rattle.bl.specs.declared.FormulaTag.TheVariants.{TopTag, AndTag, ImpliesTag, AllNamesTag, AllTimesTag, SaysTag, AtTag, AtomTag, FactTag, OrderTag, OrTag, FalsityTag}
use Rattle.bl.specs.declared.Sort.{Sort}
use Rattle.bl.specs.declared.Sort.TheVariants.{Names, Times}
use Rattle.bl.specs.Trees.{Place, Formula, and, implies, atom, fact, or}
use Rattle.bl.specs.Formulas.{argument, place, for_all, formula_by, formula}
use Rattle.formula.specs.Meaning.{tag_of}
use Rattle.formula.proofs.PartsRead.{EndsAt, after_end, after_none}

module _ (bytes : List ℕ) where
  -- The formula of at most so many levels at a place ends at r.
  abbrev FormulaEnds : ℕ → ℕ → Option ℕ → Type 0
  FormulaEnds at left r = (n : ℕ) (sorts : List Sort) (A : Formula) (e : ℕ) → n ≤ left → formula bytes n sorts at ≡ Some (A, e) → r ≡ Some e

  -- What stands where a term may ends at r.
  abbrev PlaceEnds : ℕ → Option ℕ → Type 0
  PlaceEnds at r = (sorts : List Sort) → EndsAt (argument bytes sorts at) r

  -- A predicate and so many places end at r.
  abbrev HeadEnds : ℕ → Option ℕ → Type 0
  HeadEnds at r = (sorts : List Sort) (p : ℕ) (xs : List Place) (e : ℕ) → predicate_and bytes (argument bytes sorts) at ≡ Some ((p, xs), e) → r ≡ Some e

  -- A place of a sort ends where it does of any.
  sorted_ends : (at : ℕ) (r : Option ℕ) → PlaceEnds at r → (s : Sort) (sorts : List Sort) → EndsAt (place bytes s sorts at) r
  unfolding place
  sorted_ends at r h s sorts x e q =
      so_read {P = λ _ e. r ≡ Some e} (place bytes s sorts at) q
      (then_read (if_read (argument bytes sorts at) (h sorts)) λ x e q. ensure_read _ _ _ λ _. read q)

  -- With no level left, and without a tag, there is no formula.
  pub none_left : (at left : ℕ) (r : Option ℕ) → left ≡ 0 → FormulaEnds at left r
  unfolding formula
  none_left at left r l zero sorts A e m q = absurd (not_read (formula bytes 0 sorts at) refl q)
  none_left at left r l (suc n) sorts A e m q = absurd (omega arith)

  pub untagged_ends : (at left : ℕ) (r : Option ℕ) → tag_of bytes at ≡ None → FormulaEnds at left r
  unfolding formula then present
  untagged_ends at left r none zero sorts A e m q = absurd (not_read (formula bytes 0 sorts at) refl q)
  untagged_ends at left r none (suc n) sorts A e m q =
      so_read {P = λ _ e. r ≡ Some e} (formula bytes (suc n) sorts at) q (byte_then bytes at _ (λ l. rw none unread))

  -- At a place with this tag, over parts of one level less.
  module _ (at left after : ℕ) (r : Option ℕ) (tag : FormulaTag) (told : tag_of bytes at ≡ Some tag) (past : at < length bytes → after ≡ at + 1) where
    ends_by : {kind : FormulaTag} → tag ≡ kind
        → ((n : ℕ) (sorts : List Sort) → n ≤ left - 1 → IfRead (λ _ e. r ≡ Some e) (formula_by bytes (formula bytes n) sorts kind after))
        → FormulaEnds at left r
    unfolding formula then present
    ends_by k h zero sorts A e m q = absurd (not_read (formula bytes 0 sorts at) refl q)
    ends_by k h (suc n) sorts A e m q =
        so_read {P = λ _ e. r ≡ Some e} (formula bytes (suc n) sorts at) q
        (byte_then bytes at _ (λ l. rw (told, k, ← (past l)) (h n sorts (omega arith))))

    pub leaf_ends : (tag ≡ TopTag) ⊎ (tag ≡ FalsityTag) → r ≡ Some after → FormulaEnds at left r
    unfolding formula_by
    leaf_ends (inl k) e = ends_by k (λ n sorts l. read e)
    leaf_ends (inr k) e = ends_by k (λ n sorts l. read e)

    -- What a formula at a place with so many levels less reads to.
    abbrev Reads : {A : Type 0} → (ℕ → List Sort → Option (A × ℕ)) → Type 0
    Reads o = (n : ℕ) (sorts : List Sort) → n ≤ left - 1 → IfRead (λ _ e. r ≡ Some e) (o n sorts)

    -- Two formulas, one after the other, by where both end.
    abbrev Both : Type 0
    Both = (join : Formula → Formula → Formula)
        → Reads (λ n sorts. then (formula bytes n sorts after) (λ A place. then (formula bytes n sorts place) (λ B. give (join A B))))

    pub both_end : (m : ℕ) → FormulaEnds after (left - 1) (Some m) → FormulaEnds m (left - 1) r → Both
    both_end m h h' join n sorts l =
        after_end (formula bytes n sorts after) m _ (λ A e. h n sorts A e l) λ A.
        then_read (if_read (formula bytes n sorts m) (λ B e. h' n sorts B e l)) λ B e q.
        read q

    pub first_missing : FormulaEnds after (left - 1) None → Both
    first_missing h join n sorts l = after_none (formula bytes n sorts after) _ (λ A e. h n sorts A e l)

    pub two_sided_ends : (tag ≡ AndTag) ⊎ ((tag ≡ ImpliesTag) ⊎ (tag ≡ OrTag)) → Both → FormulaEnds at left r
    unfolding formula_by
    two_sided_ends (inl k) h = ends_by k (h and)
    two_sided_ends (inr (inl k)) h = ends_by k (h implies)
    two_sided_ends (inr (inr k)) h = ends_by k (h or)

    -- A formula under a binder.
    module _ (h : FormulaEnds after (left - 1) r) where
      under_ends : (s : Sort) → Reads (λ n sorts. for_all bytes (formula bytes n) sorts s after)
      unfolding for_all
      under_ends s n sorts l =
          ensure_read _ _ _ λ _.
          then_read (if_read (formula bytes n (s ∷ sorts) after) (λ A e. h n (s ∷ sorts) A e l)) λ A e q.
          read q

      pub all_end : (tag ≡ AllNamesTag) ⊎ (tag ≡ AllTimesTag) → FormulaEnds at left r
      unfolding formula_by
      all_end (inl k) = ends_by k (under_ends Names)
      all_end (inr k) = ends_by k (under_ends Times)

    pub says_ends : (m : ℕ) → PlaceEnds after (Some m) → FormulaEnds m (left - 1) r → tag ≡ SaysTag → FormulaEnds at left r
    unfolding formula_by
    says_ends m h h' k =
        ends_by k λ n sorts l.
        after_end (place bytes Names sorts after) m _ (sorted_ends after (Some m) h Names sorts) λ x.
        then_read (if_read (formula bytes n sorts m) (λ A e. h' n sorts A e l)) λ A e q.
        read q

    pub nobody_says : PlaceEnds after None → tag ≡ SaysTag → FormulaEnds at left r
    unfolding formula_by
    nobody_says h k = ends_by k λ n sorts l. after_none (place bytes Names sorts after) _ (sorted_ends after None h Names sorts)

    pub at_ends : (m m' : ℕ) → PlaceEnds after (Some m) → PlaceEnds m (Some m') → FormulaEnds m' (left - 1) r → tag ≡ AtTag → FormulaEnds at left r
    unfolding formula_by
    at_ends m m' h h' g k =
        ends_by k λ n sorts l.
        after_end (place bytes Times sorts after) m _ (sorted_ends after (Some m) h Times sorts) λ x.
        after_end (place bytes Times sorts m) m' _ (sorted_ends m (Some m') h' Times sorts) λ y.
        then_read (if_read (formula bytes n sorts m') (λ A e. g n sorts A e l)) λ A e q.
        read q

    pub at_no_from : PlaceEnds after None → tag ≡ AtTag → FormulaEnds at left r
    unfolding formula_by
    at_no_from h k = ends_by k λ n sorts l. after_none (place bytes Times sorts after) _ (sorted_ends after None h Times sorts)

    pub at_no_to : (m : ℕ) → PlaceEnds after (Some m) → PlaceEnds m None → tag ≡ AtTag → FormulaEnds at left r
    unfolding formula_by
    at_no_to m h h' k =
        ends_by k λ n sorts l.
        after_end (place bytes Times sorts after) m _ (sorted_ends after (Some m) h Times sorts) λ x.
        after_none (place bytes Times sorts m) _ (sorted_ends m None h' Times sorts)

    pub order_ends : (m : ℕ) → PlaceEnds after (Some m) → PlaceEnds m r → tag ≡ OrderTag → FormulaEnds at left r
    unfolding formula_by
    order_ends m h h' k =
        ends_by k λ n sorts l.
        after_end (place bytes Times sorts after) m _ (sorted_ends after (Some m) h Times sorts) λ x.
        then_read (if_read (place bytes Times sorts m) (sorted_ends m r h' Times sorts)) λ y e q.
        read q

    pub order_no_first : PlaceEnds after None → tag ≡ OrderTag → FormulaEnds at left r
    unfolding formula_by
    order_no_first h k = ends_by k λ n sorts l. after_none (place bytes Times sorts after) _ (sorted_ends after None h Times sorts)

    -- A predicate with its places.
    module _ (h : HeadEnds after r) where
      headed_ends : (join : ℕ → List Place → Formula) → Reads (λ n sorts. then (predicate_and bytes (argument bytes sorts) after) (λ s. give (join s.0 s.1)))
      headed_ends join n sorts l = then_read (if_read (predicate_and bytes (argument bytes sorts) after) (λ s e. h sorts s.0 s.1 e)) λ s e q. read q

      pub headed_end : (tag ≡ AtomTag) ⊎ (tag ≡ FactTag) → FormulaEnds at left r
      unfolding formula_by
      headed_end (inl k) = ends_by k (headed_ends atom)
      headed_end (inr k) = ends_by k (headed_ends fact)
