-- Where a term and a fact of a state end, which their tags and their count tell: a term's width goes by its tag, and a fact ends with its
-- last term.
use Prim.Native.Nat.{ℕ, suc, ◌+◌, ◌-◌, ◌≤◌, ◌<◌}
use mathlib.Core.Bool.{Bool, true, false}
use mathlib.Core.Path.{◌≡◌, refl, sym, ap, ◌∙◌}
use mathlib.Core.List.{List}
use mathlib.Core.Logic.{◌⊎◌, inl, inr}
use Rattle.std.specs.Prelude.{Err, None, Ok, Option, Result, Some, ok_or}
use native.Mathlib.Omega.{arith}
use lib.ListN.{length, get_or}
use Rattle.procap.specs.Facts.{Spelled}
use Rattle.procap.specs.Bytes.{many, number, byte, term_tag, term_by, predicate_and}
use Rattle.procap.specs.States.{settled, settled_term, fact}
use Rattle.procap.specs.declared.fact.Term.{Term}
use Rattle.procap.specs.declared.tag.NoTag.{NoTag}
use Rattle.procap.specs.declared.tag.TermTag.{TermTag}
use Rattle.procap.specs.declared.tag.TermTag.TheVariants.{NameTag, MomentTag, MinusInfinityTag, PlusInfinityTag, CtimeTag, VariableTag}
use Rattle.procap.proofs.Numbers.{number_read}
use Rattle.procap.proofs.Readers.{IfRead, unread, read, so_read, then_read, ensure_read, Ends, number_ends}
use Rattle.procap.proofs.ReadApart.{if_read, as_read, same_read, not_read, first_of, none_of}
use Rattle.state.proofs.Terms.{no_term, unsettled, by_tag}

-- ── A term ──

-- What a byte's tag is where the code finds one, and where it finds none.
pub tag_found : (o : Option TermTag) {e : NoTag} {r : Result TermTag NoTag} {tag : TermTag} → r ≡ ok_or o e → r ≡ Ok tag → o ≡ Some tag
tag_found None h k = cc
tag_found (Some t) h k = cc

pub tag_missing : (o : Option TermTag) {e f : NoTag} {r : Result TermTag NoTag} → r ≡ ok_or o e → r ≡ Err f → o ≡ None
tag_missing None h k = refl
tag_missing (Some t) h k = cc

-- How many bytes a term takes, by its tag.
abbrev pub width : TermTag → ℕ
width NameTag = 3
width MomentTag = 6
width MinusInfinityTag = 1
width PlusInfinityTag = 1
width CtimeTag = 1
width VariableTag = 1

-- A term that is all in its tag takes one.
pub one_byte : (tag : TermTag) → (tag ≡ MinusInfinityTag) ⊎ ((tag ≡ PlusInfinityTag) ⊎ ((tag ≡ CtimeTag) ⊎ (tag ≡ VariableTag))) → width tag ≡ 1
one_byte tag (inl e) = ap width e
one_byte tag (inr (inl e)) = ap width e
one_byte tag (inr (inr (inl e))) = ap width e
one_byte tag (inr (inr (inr e))) = ap width e

module _ (bytes : List ℕ) where
  -- A number of k bytes ends k places on.
  pub number_width : (k at n e : ℕ) → number bytes k at ≡ Some (n, e) → at + k ≡ e
  number_width k at n e h =
      let inside = so_read (number bytes k at) h (number_ends bytes k at) in
      (same_read (number bytes k at) (number_read bytes k at _ (omega arith) refl) h).1

  -- And there are so many bytes.
  pub number_inside : (k at n e : ℕ) → number bytes k at ≡ Some (n, e) → at + k ≤ length bytes
  number_inside k at n e h = let inside = so_read (number bytes k at) h (number_ends bytes k at) in omega (arith, inside.0, inside.1)

  -- So what a tag announces ends where the tag's width says.
  by_tag_ends : (tag : TermTag) (at : ℕ) → Ends (λ e. at + width tag ≡ e) (term_by bytes tag (at + 1))
  unfolding term_by
  by_tag_ends NameTag at = then_read (if_read (number bytes 2 (at + 1)) (number_width 2 (at + 1))) (λ n e b. read (omega arith))
  by_tag_ends MomentTag at = then_read (if_read (number bytes 5 (at + 1)) (number_width 5 (at + 1))) (λ n e b. read (omega arith))
  by_tag_ends MinusInfinityTag at = read refl
  by_tag_ends PlusInfinityTag at = read refl
  by_tag_ends CtimeTag at = read refl
  by_tag_ends VariableTag at = unread

  module _ (at b : ℕ) (l : at < length bytes) (same : get_or bytes at 0 ≡ b) where
    -- A byte that is no tag begins no term.
    pub no_width : term_tag b ≡ None → (t : Term) (e : ℕ) → settled_term bytes at ≡ Some (t, e) → ⊥
    no_width n t e s = not_read (settled_term bytes at) (no_term bytes at b l same n) s

    pub term_width : (tag : TermTag) → term_tag b ≡ Some tag → (t : Term) (e : ℕ) → settled_term bytes at ≡ Some (t, e) → at + width tag ≡ e
    term_width tag h t e s = by (settled tag) refl
      where
        by : (b : Bool) → settled tag ≡ b → at + width tag ≡ e
        by true q = so_read (term_by bytes tag (at + 1)) (sym (by_tag bytes at b l same tag h q) ∙ s) (by_tag_ends tag at)
        by false q = absurd (not_read (settled_term bytes at) (unsettled bytes at b l same tag h q) s)

-- ── The terms of a fact ──

-- Of so many terms from a place on, i are passed: where the terms end, the others end.
pub record TermsPassed (bytes : List ℕ) (count from next i : ℕ) : Type 0 where
  pub few : i ≤ count
  pub onwards : from ≤ next
  pub left : (ts : List Term) (e : ℕ) → many (settled_term bytes) count from ≡ Some (ts, e)
      → (us : List Term) × (many (settled_term bytes) (count - i) next ≡ Some (us, e))

pub no_term_passed : (bytes : List ℕ) (count from : ℕ) → TermsPassed bytes count from from 0
no_term_passed bytes count from = record {
  few = omega arith;
  onwards = omega arith;
  left = λ ts e h. (ts, ap (λ k. many (settled_term bytes) k from) (omega arith) ∙ h);
}

module _ {bytes : List ℕ} {count from next i : ℕ} (h : TermsPassed bytes count from next i) where
  -- One more.
  pub one_term_passed : i < count → (after : ℕ) → ((t : Term) (e : ℕ) → settled_term bytes next ≡ Some (t, e) → after ≡ e) → next ≤ after
      → TermsPassed bytes count from after (i + 1)
  one_term_passed l after ends further = record {
    few = omega arith;
    onwards = omega (arith, h.onwards);
    left = λ ts e r.
        let (us, others) = h.left ts e r in
        let more : count - i ≡ suc (count - (i + 1)) = omega arith in
        let parts = first_of (settled_term bytes) (count - (i + 1)) next us e (rw more at others) in
        let there = ends parts.first parts.next parts.first_reads in
        (parts.others, rw there parts.others_read);
  }

  -- All of them.
  pub all_terms_passed : count ≤ i → (ts : List Term) (e : ℕ) → many (settled_term bytes) count from ≡ Some (ts, e) → next ≡ e
  all_terms_passed l ts e r =
      let (us, others) = h.left ts e r in
      (none_of (settled_term bytes) (count - i) next us e (omega arith) others).1

-- ── A fact ──

-- The parts of a fact: its predicate, its count and its terms.
pub record FactParts (bytes : List ℕ) (at : ℕ) (f : Spelled) (e : ℕ) : Type 0 where
  pub predicate_reads : number bytes 2 at ≡ Some (f.0, at + 2)
  pub count : ℕ
  pub from : ℕ
  pub count_reads : byte bytes (at + 2) ≡ Some (count, from)
  pub terms_read : many (settled_term bytes) count from ≡ Some (f.1, e)

module _ (bytes : List ℕ) (at : ℕ) (f : Spelled) (e : ℕ) (h : fact bytes at ≡ Some (f, e)) where
  pub fact_parts : FactParts bytes at f e
  unfolding fact predicate_and
  fact_parts = so_read (fact bytes at) h found
    where
      found : IfRead (FactParts bytes at) (fact bytes at)
      found =
          then_read (as_read (number bytes 2 at)) λ p place r.
          then_read (as_read (byte bytes place)) λ n from s.
          ensure_read _ _ _ λ _.
          then_read (as_read (many (settled_term bytes) n from)) λ ts end t.
          let two = sym (number_width bytes 2 at p place r) in
          read (record {
            predicate_reads = rw two at r;
            count = n;
            from = from;
            count_reads = rw two at s;
            terms_read = t;
          })

  -- So it has a count two places on, and from there its terms.
  module _ (place : ℕ) (two : at + 2 ≡ place) where
    pub count_there : byte bytes place ≡ None → ⊥
    count_there missing = not_read (byte bytes place) missing (rw two at fact_parts.count_reads)

    pub terms_there : (n from : ℕ) → byte bytes place ≡ Some (n, from) → many (settled_term bytes) n from ≡ Some (f.1, e)
    terms_there n from r =
        let same = same_read (byte bytes place) (rw two at fact_parts.count_reads) r in
        rw (same.0, same.1) at fact_parts.terms_read
