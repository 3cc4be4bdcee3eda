-- Heads are compared by their predicates, then by their counts, and then place by place.
use Prim.Native.Nat.{ℕ}
use mathlib.Core.Path.{◌≡◌, sym, ap, ◌∙◌}
use mathlib.Core.List.{List}
use Rattle.std.proofs.lemmas.Option.{none-some, same_Some}
use Rattle.std.specs.Prelude.{None, Option, Some}
use lib.ListN.{length, length-map}
use Rattle.procap.specs.Bytes.{many}
use Rattle.procap.proofs.Readers.{so_read, any_read, many_read}
use Rattle.bl.specs.Trees.{Place}
use Rattle.bl.specs.Formulas.{argument}
use Rattle.bl.specs.Questions.{misfit, ◌>>=◌}
use Rattle.ledger.specs.declared.Ledger.{Ledger}
use Rattle.formula.specs.declared.parts.FormulaAt.{FormulaAt}
use Rattle.formula.specs.declared.parts.Head.{Head}
use Rattle.formula.specs.declared.compare.Compared.{Compared}
use Rattle.formula.specs.PutIn.{terms_of, fill_place}
use Rattle.formula.specs.Meaning.{begin, HeadReads}
use Rattle.formula.specs.Comparing.{Two, LeadsTo, move, PlacesStand, HeadStands, ComparesPlaces, ComparesHeads}
use Rattle.formula.proofs.Comparing.{equal_numbers, other_numbers}

-- There are as many places as were read.
as_many : (bytes : List ℕ) (d count : ℕ) (f : FormulaAt) (xs : List Place) (e : ℕ) → PlacesStand bytes d count f xs e → length xs ≡ count
as_many bytes d count f xs e h =
    let r = argument bytes h.sorts in
    let counted = so_read (many r count f.at) h.reads (many_read {P = λ _. Unit {0}} (λ place. any_read (r place)) count f.at) in
    sym (ap length h.filled) ∙ length-map h.written (fill_place d (terms_of f.terms)) ∙ counted.0

-- What `head_at` promises of a place.
abbrev FindsHead : List ℕ → ℕ → Option Head → Type 0
FindsHead = HeadReads

-- Where it finds none there is none.
no_head : {bytes : List ℕ} {d : ℕ} {f : FormulaAt} {p : ℕ} {xs : List Place} {e : ℕ} → FindsHead bytes f.at None → HeadStands bytes d f p xs e → ⊥
no_head {p = p} finds h = none-some _ (finds p h.count h.after_predicate h.after_count h.predicate_reads h.count_reads)

module _ (bytes : List ℕ) (d : ℕ) (f : FormulaAt) (found : Head) where
  -- The head that it finds, and the places after it.
  record HeadFound (p : ℕ) (xs : List Place) (e : ℕ) : Type 0 where
    predicate : found.predicate ≡ p
    count : found.count ≡ length xs
    places : PlacesStand bytes d found.count (begin f found.next) xs e

  head_found : (p : ℕ) (xs : List Place) (e : ℕ) → FindsHead bytes f.at (Some found) → HeadStands bytes d f p xs e → HeadFound p xs e
  head_found p xs e finds h =
      let is = same_Some found _ (finds p h.count h.after_predicate h.after_count h.predicate_reads h.count_reads) in
      let places : PlacesStand bytes d found.count (begin f found.next) xs e = rw is h.places in
      record { predicate = ap (λ (r : Head). r.predicate) is; count = sym (as_many bytes d found.count (begin f found.next) xs e places); places = places }

-- With no head on a side there is nothing to compare.
module _ (left_bytes right_bytes : List ℕ) (pair : Two) (l : Ledger) (r : Compared) where
  pub no_left_head : FindsHead left_bytes pair.left.at None → ComparesHeads left_bytes right_bytes pair l r
  no_left_head finds p p' xs ys e e' h h' = absurd (no_head finds h)

  pub no_right_head : FindsHead right_bytes pair.right.at None → ComparesHeads left_bytes right_bytes pair l r
  no_right_head finds p p' xs ys e e' h h' = absurd (no_head finds h')

module _ (left_bytes right_bytes : List ℕ) (pair : Two) (l : Ledger) (one other : Head) (r : Compared)
    (finds : FindsHead left_bytes pair.left.at (Some one)) (finds' : FindsHead right_bytes pair.right.at (Some other)) where
  abbrev d : ℕ
  d = pair.under

  abbrev q : ℕ
  q = pair.offset

  -- Predicates that differ.
  pub other_predicates : (one.predicate ≡ other.predicate → ⊥) → ((e e' : ℕ) → LeadsTo l (misfit q) r e e')
      → ComparesHeads left_bytes right_bytes pair l r
  unfolding ◌>>=◌
  other_predicates differ misfits p p' xs ys e e' h h' =
      let a = head_found left_bytes d pair.left one p xs e finds h in
      let b = head_found right_bytes d pair.right other p' ys e' finds' h' in
      rw (other_numbers q p p' (λ same. differ (a.predicate ∙ same ∙ sym b.predicate))) (misfits e e')

  -- Counts that differ after the same predicate.
  pub other_counts : one.predicate ≡ other.predicate → (one.count ≡ other.count → ⊥) → ((e e' : ℕ) → LeadsTo l (misfit q) r e e')
      → ComparesHeads left_bytes right_bytes pair l r
  unfolding ◌>>=◌
  other_counts same differ misfits p p' xs ys e e' h h' =
      let a = head_found left_bytes d pair.left one p xs e finds h in
      let b = head_found right_bytes d pair.right other p' ys e' finds' h' in
      let predicates = equal_numbers q p p' (sym a.predicate ∙ same ∙ b.predicate) in
      let counts = other_numbers q (length xs) (length ys) (λ same'. differ (a.count ∙ same' ∙ sym b.count)) in
      rw (predicates, counts) (misfits e e')

  -- Places after the same predicate and the same count.
  pub same_counts : one.predicate ≡ other.predicate → one.count ≡ other.count
      → ComparesPlaces left_bytes right_bytes one.count (move pair one.next other.next) l r
      → ComparesHeads left_bytes right_bytes pair l r
  unfolding ◌>>=◌
  same_counts same same' places p p' xs ys e e' h h' =
      let a = head_found left_bytes d pair.left one p xs e finds h in
      let b = head_found right_bytes d pair.right other p' ys e' finds' h' in
      let predicates = equal_numbers q p p' (sym a.predicate ∙ same ∙ b.predicate) in
      let counts = equal_numbers q (length xs) (length ys) (sym a.count ∙ same' ∙ b.count) in
      rw (predicates, counts) (places xs ys e e' a.places (rw same' b.places))
