-- Whoever is marked above a principal gains first, in the rows of the strongers, and then the principal itself, in its own row.
use Prim.Native.Nat.{ℕ, ◌≤◌, ◌<◌}
use mathlib.Core.Path.{◌≡◌, refl, sym, ap, ◌∙◌}
use mathlib.Core.List.{List, ◌++◌}
use mathlib.Core.Logic.{◌⊎◌, inl, inr, ◌↔◌}
use native.Mathlib.Omega.{arith}
use native.Mathlib.Decide.{ℕ_discrete}
use lib.Bits.{bit_or}
use lib.ListN.{length, get_or, take, set, length-take, get_or-append}
use lib.Seq.{get_or-take, get_or-set_same, get_or-set_other}
use Rattle.std.specs.Prelude.{None, Some}
use Rattle.procap.specs.Lists.{In}
use Rattle.rising.specs.Rising.{below}
use Rattle.rising.proofs.RisingLaws.{stands_at}
use Rattle.strength.specs.declared.table.Strengths.{Strengths}
use Rattle.strength.specs.Marks.{Bit, RowsGain}
use Rattle.strength.specs.Strengths.{names, MarkOf, MarkedAbove}
use Rattle.strength.specs.Places.{PlacedIn}
use Rattle.strength.specs.Taking.{SameNames, Gains}
use Rattle.strength.proofs.BitLaws.{Bit-or}
use Rattle.strength.proofs.Naming.{same_place}

-- Those marked above a principal have gained.
pub record AboveGain (s more : Strengths) (a gained : ℕ) : Type 0 where
  pub same : SameNames s more
  pub marked : (k j : ℕ) → In k (names s.strongers) → In j (names s.weakers)
      → MarkOf more k j ↔ (MarkOf s k j ⊎ (MarkedAbove s k a × Bit gained (below j (names s.weakers))))

-- A principal that stands below nobody has nobody above it.
pub nobody_above : (s : Strengths) (a gained : ℕ) → PlacedIn (names s.weakers) a None → AboveGain s s a gained
nobody_above s a gained n =
    record { same = record { above = refl; under = refl }; marked = λ k j i h. (λ m. inl m, λ r. elim r [ inl m ↦ m | inr g ↦ absurd (n g.0.weaker) ]) }

-- The rows of the strongers have gained that had the mark of its column.
module _ (s : Strengths) (a gained column : ℕ) (q : PlacedIn (names s.weakers) a (Some column)) (rows rest : List ℕ)
    (all : s.strongers.count ≤ length rows) (gains : RowsGain column gained (take s.strongers.count s.marks) rows) where
  pub above_gain : AboveGain s (record { strongers = s.strongers; weakers = s.weakers; marks = rows ++ rest }) a gained
  above_gain = record { same = record { above = refl; under = refl }; marked = marked }
    where
      row_inside : (k : ℕ) → In k (names s.strongers) → below k (names s.strongers) < s.strongers.count
      row_inside k i =
          let ordered = s.strongers in
          omega (arith, (stands_at k (names ordered) ordered.rising i).0, length-take ordered.count ordered.numbers)

      marked : (k j : ℕ) → In k (names s.strongers) → In j (names s.weakers)
          → Bit (get_or (rows ++ rest) (below k (names s.strongers)) 0) (below j (names s.weakers))
          ↔ (MarkOf s k j ⊎ (MarkedAbove s k a × Bit gained (below j (names s.weakers))))
      marked k j i h =
          let row = below k (names s.strongers) in
          let inside = row_inside k i in
          let g = rw (get_or-take s.strongers.count s.marks row 0 inside) at (gains row (below j (names s.weakers))) in
          rw (get_or-append rows rest 0 row (omega arith)) (
            λ m. elim (g.0 m) [ inl w ↦ inl w | inr b ↦ inr (record { stronger = i; weaker = q.1; marked = rw q.2 at b.0 }, b.1) ],
            λ r. elim r [ inl w ↦ g.1 (inl w) | inr b ↦ g.1 (inr (rw q.2 b.0.marked, b.1)) ],
          )

-- With the principal's own row joined too, the principal has gained as well.
module _ (s middle : Strengths) (a own gained : ℕ) (p : PlacedIn (names s.strongers) a (Some own)) (inside : own < length middle.marks)
    (first : AboveGain s middle a gained) where
  abbrev joined : List ℕ
  joined = set middle.marks own (bit_or (get_or middle.marks own 0) gained)

  -- What is in a row then: in the own row what is gained besides, and in any other what was there.
  own_row : (x y : ℕ) → x ≡ own → Bit (get_or joined x 0) y ↔ (Bit (get_or middle.marks x 0) y ⊎ Bit gained y)
  own_row x y e = rw (e, get_or-set_same middle.marks own (bit_or (get_or middle.marks own 0) gained) 0 inside) (Bit-or (get_or middle.marks own 0) gained y)

  other_row : (x : ℕ) → (x ≡ own → ⊥) → get_or joined x 0 ≡ get_or middle.marks x 0
  other_row x n = get_or-set_other middle.marks own x _ 0 n

  pub own_gains : Gains s (record { strongers = middle.strongers; weakers = middle.weakers; marks = joined }) a gained
  own_gains = record { same = record { above = first.same.above; under = first.same.under }; marked = λ k j i h. elim (ℕ_discrete k a) [ yes e ↦ own_marked k j i h e | no n ↦ other_marked k j i h n ] }
    where
      place_is : (k : ℕ) → below k (names middle.strongers) ≡ below k (names s.strongers)
      place_is k = ap (λ n. below k (names n)) first.same.above

      column_is : (j : ℕ) → below j (names middle.weakers) ≡ below j (names s.weakers)
      column_is j = ap (λ n. below j (names n)) first.same.under

      Then : ℕ → ℕ → Type 0
      Then k j = Bit (get_or joined (below k (names middle.strongers)) 0) (below j (names middle.weakers))

      Now : ℕ → ℕ → Type 0
      Now k j = MarkOf s k j ⊎ (((k ≡ a) ⊎ MarkedAbove s k a) × Bit gained (below j (names s.weakers)))

      own_marked : (k j : ℕ) → In k (names s.strongers) → In j (names s.weakers) → k ≡ a → Then k j ↔ Now k j
      own_marked k j i h e =
          let row = own_row (below k (names middle.strongers)) (below j (names middle.weakers)) (place_is k ∙ ap (λ n. below n (names s.strongers)) e ∙ sym p.2) in
          let was = first.marked k j i h in (
            λ m. elim (row.0 m) [
              | inl w ↦ elim (was.0 w) [ inl l ↦ inl l | inr g ↦ inr (inl e, g.1) ]
              | inr g ↦ inr (inl e, rw (column_is j) at g)
            ],
            λ r. row.1 (elim r [ inl w ↦ inl (was.1 (inl w)) | inr g ↦ inr (rw (column_is j) g.1) ]),
          )

      other_marked : (k j : ℕ) → In k (names s.strongers) → In j (names s.weakers) → (k ≡ a → ⊥) → Then k j ↔ Now k j
      other_marked k j i h n =
          let apart : below k (names middle.strongers) ≡ own → ⊥ = λ e. n (same_place (names s.strongers) k a s.strongers.rising i p.1 (sym (place_is k) ∙ e ∙ p.2)) in
          let was = first.marked k j i h in
          rw (other_row (below k (names middle.strongers)) apart) (
            λ m. elim (was.0 m) [ inl l ↦ inl l | inr g ↦ inr (inr g.0, g.1) ],
            λ r. was.1 (elim r [ inl w ↦ inl w | inr g ↦ inr (elim g.0 [ inl e ↦ absurd (n e) | inr m ↦ m ], g.1) ]),
          )
