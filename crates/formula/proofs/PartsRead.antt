-- What the readers find of the parts of a formula: its tag, what stands where a term may, and where it ends.
use Prim.Native.Nat.{ℕ, suc, ◌+◌, ◌-◌, ◌≤◌, ◌<◌}
use mathlib.Core.Path.{◌≡◌, refl, sym, ap, ◌∙◌}
use mathlib.Core.List.{List, ◌∷◌}
use mathlib.Core.Logic.{◌⊎◌, inl, inr}
use Rattle.std.proofs.lemmas.Option.{none-some, same_Some}
use Rattle.std.specs.Prelude.{None, Option, Some, unwrap_or}
use native.Mathlib.Omega.{arith}
use Rattle.procap.specs.Bytes.{Reader, then, present, many, number, byte, term_tag, term_by, predicate_and}
use Rattle.procap.specs.declared.fact.Term.{Term}
use Rattle.procap.specs.declared.tag.TermTag.{TermTag}
use Rattle.procap.specs.declared.tag.TermTag.TheVariants.{NameTag, MomentTag, MinusInfinityTag, PlusInfinityTag, CtimeTag, VariableTag}
use Rattle.procap.proofs.Readers.{IfRead, unread, read, so_read, then_read, ensure_read}
use Rattle.procap.proofs.ReadApart.{if_read, as_read, same_read, not_read, first_of, none_of}
use Rattle.bl.specs.declared.Sort.{Sort}
use Rattle.bl.specs.Trees.{Place, bound}
use Rattle.bl.specs.Formulas.{fixed_by, place_by, argument}
use Rattle.formula.specs.declared.terms.Terms.{Terms}
use Rattle.formula.specs.declared.terms.Place as code
use Rattle.formula.specs.declared.terms.Place.TheVariants.{Fixed}
use Rattle.formula.specs.declared.parts.Head.{Head}
use Rattle.formula.specs.PutIn.{place_of, fill_place}
use Rattle.formula.specs.Meaning.{PlaceFound, PlaceReads, PlaceEnds, PlaceReadsIfAny, HeadReads}

-- ── What stands where a term may ──

-- The tags of terms that may stand in a formula, and the reader that each of them picks.
unfoldable pub Fixes : TermTag → Type 0
Fixes NameTag = Unit {0}
Fixes MomentTag = Unit {0}
Fixes MinusInfinityTag = Unit {0}
Fixes PlusInfinityTag = Unit {0}
Fixes CtimeTag = ⊥
Fixes VariableTag = ⊥

pub one_of_four : {tag : TermTag} → (tag ≡ NameTag) ⊎ ((tag ≡ MomentTag) ⊎ ((tag ≡ MinusInfinityTag) ⊎ (tag ≡ PlusInfinityTag))) → Fixes tag
unfolding Fixes
one_of_four (inl e) = rw e tt
one_of_four (inr (inl e)) = rw e tt
one_of_four (inr (inr (inl e))) = rw e tt
one_of_four (inr (inr (inr e))) = rw e tt

pub fixes_by : (bytes : List ℕ) (sorts : List Sort) (tag : TermTag) → Fixes tag → place_by bytes sorts tag ≡ fixed_by bytes tag
unfolding Fixes place_by
fixes_by bytes sorts NameTag f = refl
fixes_by bytes sorts MomentTag f = refl
fixes_by bytes sorts MinusInfinityTag f = refl
fixes_by bytes sorts PlusInfinityTag f = refl
fixes_by bytes sorts CtimeTag f = absurd f
fixes_by bytes sorts VariableTag f = absurd f

module _ (bytes : List ℕ) (at : ℕ) (terms : Terms) (under : ℕ) (r : Option (code.Place × ℕ)) where
  abbrev So : Place → ℕ → Type 0
  So x e = PlaceFound terms under x e r

  found_if : ((sorts : List Sort) → IfRead So (argument bytes sorts at)) → PlaceReadsIfAny bytes at terms under r
  found_if h sorts x e q = so_read {P = So} (argument bytes sorts at) q (h sorts)

  -- Past the end and without a tag nothing is.
  pub none_found : byte bytes at ≡ None → PlaceReadsIfAny bytes at terms under r
  unfolding argument then
  none_found none = found_if (λ sorts. rw none unread)

  module _ (b next : ℕ) (there : byte bytes at ≡ Some (b, next)) where
    pub untagged : term_tag b ≡ None → PlaceReadsIfAny bytes at terms under r
    unfolding argument then present
    untagged none = found_if (λ sorts. rw (there, none) unread)

    module _ (tag : TermTag) (told : term_tag b ≡ Some tag) where
      found_by : ((sorts : List Sort) → IfRead So (place_by bytes sorts tag next)) → PlaceReadsIfAny bytes at terms under r
      unfolding argument then present
      found_by h = found_if (λ sorts. rw (there, told) (h sorts))

      -- A tag that announces no place.
      pub ctime_found : tag ≡ CtimeTag → PlaceReadsIfAny bytes at terms under r
      unfolding place_by
      ctime_found e = found_by (λ sorts. rw e unread)

      -- A tag that announces a term.
      pub fixed_found : Fixes tag → ((t : Term) (e : ℕ) → term_by bytes tag next ≡ Some (t, e) → r ≡ Some (Fixed t, e))
          → PlaceReadsIfAny bytes at terms under r
      unfolding fixed_by fill_place place_of
      fixed_found f h =
          found_by λ sorts.
          rw (fixes_by bytes sorts tag f)
          (then_read (if_read (term_by bytes tag next) h) (λ t e q. read (Fixed t, q, λ few. refl)))

      -- A tag that announces a variable.
      pub variable_found : tag ≡ VariableTag → ((i e : ℕ) → byte bytes next ≡ Some (i, e) → PlaceFound terms under (bound i) e r)
          → PlaceReadsIfAny bytes at terms under r
      unfolding place_by
      variable_found e h =
          found_by λ sorts.
          rw e
          (then_read (if_read {P = λ i e. So (bound i) e} (byte bytes next) h)
          (λ i e q. ensure_read _ _ _ (λ l. read q)))

-- What stands for a place is that which was found, whatever is handed back elsewhere.
module _ (bytes : List ℕ) (at : ℕ) (terms : Terms) (under : ℕ) (o : Option (code.Place × ℕ)) (found : PlaceReadsIfAny bytes at terms under o)
    (other : code.Place × ℕ) where
  pub place_given : PlaceReads bytes at terms under (unwrap_or o other).0
  place_given sorts x e few q = let so = found sorts x e q in rw so.1 (so.2 few)

  pub end_given : PlaceEnds bytes at (unwrap_or o other).1
  end_given sorts x e q = rw (found sorts x e q).1 refl

-- ── A predicate and a count ──

module _ (bytes : List ℕ) (at : ℕ) where
  pub no_predicate_found : number bytes 2 at ≡ None → (r : Option Head) → HeadReads bytes at r
  no_predicate_found none r p n e₁ e₂ f g = absurd (not_read (number bytes 2 at) none f)

  module _ (p after : ℕ) (h : number bytes 2 at ≡ Some (p, after)) where
    pub head_found : (n end : ℕ) → byte bytes after ≡ Some (n, end) → HeadReads bytes at (Some (record { predicate = p; count = n; next = end }))
    head_found n end k q m e₁ e₂ f g =
        let one = same_read (number bytes 2 at) h f in
        let two = same_read (byte bytes e₁) (rw one.1 at k) g in
        λ i. Some (record { predicate = one.0 i; count = two.0 i; next = two.1 i })

    pub no_count_found : byte bytes after ≡ None → (r : Option Head) → HeadReads bytes at r
    no_count_found k r q m e₁ e₂ f g = absurd (not_read (byte bytes e₁) (rw (same_read (number bytes 2 at) h f).1 at k) g)

-- ── Where parts end ──

-- What the code hands back is where the reader's value ends, if it finds one.
abbrev pub EndsAt : {A : Type 0} → Option (A × ℕ) → Option ℕ → Type 0
EndsAt {A} o m = (a : A) (e : ℕ) → o ≡ Some (a, e) → m ≡ Some e

-- Going on from there; where nothing is handed back there is nothing to go on from.
pub after_end : {A B : Type 0} {Q : B → ℕ → Type 0} (o : Option (A × ℕ)) (m : ℕ) (f : A → Reader B) → EndsAt o (Some m) → ((a : A) → IfRead Q (f a m)) → IfRead Q (then o f)
after_end o m f h k = then_read (if_read o h) (λ a e q. rw (← (same_Some m e q)) (k a))

pub after_none : {A B : Type 0} {Q : B → ℕ → Type 0} (o : Option (A × ℕ)) (f : A → Reader B) → EndsAt o None → IfRead Q (then o f)
after_none o f h = then_read (if_read o h) (λ a e q. absurd (none-some e q))

-- Of the values that are left the next, up to a place, and the others from there on.
pub record NextOf {A : Type 0} (r : Reader A) (n at m : ℕ) (xs : List A) (e : ℕ) : Type 0 where
  pub value : A
  pub rest : List A
  pub is : xs ≡ (value ∷ rest)
  pub reads : r at ≡ Some (value, m)
  pub more : many r n m ≡ Some (rest, e)

pub next_of : {A : Type 0} (r : Reader A) (count i at m : ℕ) (xs : List A) (e : ℕ) → i < count → EndsAt (r at) (Some m) → many r (count - i) at ≡ Some (xs, e)
    → NextOf r (count - (i + 1)) at m xs e
next_of r count i at m xs e l h q =
    let n : ℕ = count - (i + 1) in
    let one_less : suc n ≡ count - i = omega arith in
    let one = first_of r n at xs e (ap (λ k. many r k at) one_less ∙ q) in
    let ends = same_Some m one.next (h one.first one.next one.first_reads) in
    record {
      value = one.first;
      rest = one.others;
      is = one.is;
      reads = one.first_reads ∙ ap (λ k. Some (one.first, k)) (sym ends);
      more = ap (many r n) ends ∙ one.others_read;
    }

-- Of so many places from one on, i are passed, up to the next place.
pub record PlacesPassed (bytes : List ℕ) (count at next i : ℕ) : Type 0 where
  pub few : i ≤ count
  pub left : (sorts : List Sort) (xs : List Place) (e : ℕ) → many (argument bytes sorts) count at ≡ Some (xs, e)
      → (ys : List Place) × (many (argument bytes sorts) (count - i) next ≡ Some (ys, e))

module _ {bytes : List ℕ} {count at : ℕ} where
  pub none_passed : PlacesPassed bytes count at at 0
  none_passed = record { few = omega arith; left = λ sorts xs e h. (xs, ap (λ k. many (argument bytes sorts) k at) (omega arith) ∙ h) }

  module _ {next i : ℕ} (p : PlacesPassed bytes count at next i) where
    pub one_passed : (m : ℕ) → i < count → ((sorts : List Sort) → EndsAt (argument bytes sorts next) (Some m)) → PlacesPassed bytes count at m (i + 1)
    one_passed m l h = record {
      few = omega arith;
      left = λ sorts xs e q.
          let before = p.left sorts xs e q in
          let one = next_of (argument bytes sorts) count i next m before.0 e l (h sorts) before.1 in
          (one.rest, one.more);
    }

    pub one_missing : i < count → ((sorts : List Sort) → EndsAt (argument bytes sorts next) None) → (sorts : List Sort) → EndsAt (many (argument bytes sorts) count at) None
    one_missing l h sorts xs e q =
        let before = p.left sorts xs e q in
        let one_less : count - i ≡ suc (count - (i + 1)) = omega arith in
        let one = first_of (argument bytes sorts) (count - (i + 1)) next before.0 e (rw one_less at before.1) in
        absurd (none-some one.next (h sorts one.first one.next one.first_reads))

    pub all_passed : count ≤ i → (sorts : List Sort) → EndsAt (many (argument bytes sorts) count at) (Some next)
    all_passed l sorts xs e q =
        let left = p.left sorts xs e q in
        ap Some (none_of (argument bytes sorts) (count - i) next left.0 e (omega (arith, p.few)) left.1).1

-- A predicate, a count and so many places end where the places do.
module _ (bytes : List ℕ) (at : ℕ) (r : Option ℕ) where
  heads_end : ((n p e₁ e₂ : ℕ) → number bytes 2 at ≡ Some (p, e₁) → byte bytes e₁ ≡ Some (n, e₂) → (sorts : List Sort) → EndsAt (many (argument bytes sorts) n e₂) r)
      → (sorts : List Sort) → EndsAt (predicate_and bytes (argument bytes sorts) at) r
  unfolding predicate_and
  heads_end h sorts s e q =
      so_read {P = λ _ e. r ≡ Some e} (predicate_and bytes (argument bytes sorts) at) q
      (then_read (as_read (number bytes 2 at)) λ p e₁ f.
      then_read (as_read (byte bytes e₁)) λ n e₂ g.
      ensure_read _ _ _ λ _.
      then_read (if_read (many (argument bytes sorts) n e₂) (h n p e₁ e₂ f g sorts)) (λ xs e q. read q))

  pub head_ends : (head : Head) → HeadReads bytes at (Some head) → ((sorts : List Sort) → EndsAt (many (argument bytes sorts) head.count head.next) r)
      → (sorts : List Sort) (p : ℕ) (xs : List Place) (e : ℕ) → predicate_and bytes (argument bytes sorts) at ≡ Some ((p, xs), e) → r ≡ Some e
  head_ends head h k sorts p xs e = heads_end there sorts (p, xs) e
    where
      there : (n p e₁ e₂ : ℕ) → number bytes 2 at ≡ Some (p, e₁) → byte bytes e₁ ≡ Some (n, e₂) → (sorts : List Sort) → EndsAt (many (argument bytes sorts) n e₂) r
      there n p e₁ e₂ f g sorts = rw (same_Some head _ (h p n e₁ e₂ f g)) at (k sorts)

  pub no_head_ends : HeadReads bytes at None
      → (sorts : List Sort) (p : ℕ) (xs : List Place) (e : ℕ) → predicate_and bytes (argument bytes sorts) at ≡ Some ((p, xs), e) → r ≡ Some e
  no_head_ends h sorts p xs e = heads_end (λ n p e₁ e₂ f g. absurd (none-some _ (h p n e₁ e₂ f g))) sorts (p, xs) e
