-- By the places of two principals: a mark in the row of the one, or in the column of the other, puts the one above the other.
use Prim.Native.Nat.{ℕ, ◌*◌, ◌%◌, ◌^◌}
use mathlib.Core.Path.{◌≡◌, sym, ap, ◌∙◌}
use mathlib.Core.Logic.{◌⊎◌, inl, inr, ◌↔◌}
use lib.Bits.{bit_or}
use lib.ListN.{get_or}
use Rattle.std.specs.Prelude.{None, Some}
use Rattle.procap.specs.Lists.{In}
use Rattle.rising.specs.Rising.{below}
use Rattle.bl.specs.Strength.{AsStrong, as_itself}
use Rattle.strength.specs.declared.table.Strengths.{Strengths}
use Rattle.strength.specs.Marks.{Bit, Marked}
use Rattle.strength.specs.Strengths.{names, MarkedAbove}
use Rattle.strength.specs.Places.{PlacedIn}
use Rattle.strength.specs.Taking.{Reaches}
use Rattle.strength.proofs.BitLaws.{Bit-or, one_bit}
use Rattle.strength.proofs.Naming.{same_place}

-- Both have places: their mark tells.
pub mark_between : (s : Strengths) (k j row column : ℕ) → PlacedIn (names s.strongers) k (Some row) → PlacedIn (names s.weakers) j (Some column)
    → Marked s.marks row column ↔ MarkedAbove s k j
mark_between s k j row column p q =
    (λ m. record { stronger = p.1; weaker = q.1; marked = rw (p.2, q.2) at m }, λ m. rw (p.2, q.2) m.marked)

-- What the row of a principal reaches, and the principal itself, is whomever it is as strong as.
module _ (s : Strengths) (b own gained : ℕ) (Row : ℕ → Type 0)
    (p : PlacedIn (names s.weakers) b (Some own)) (g : (y : ℕ) → Bit gained y ↔ ((y ≡ own) ⊎ Row y))
    (r : (j : ℕ) → In j (names s.weakers) → Row (below j (names s.weakers)) ↔ MarkedAbove s b j) where
  reached : Reaches s b gained
  reached ps gives j i = (to, fro)
    where
      column : ℕ
      column = below j (names s.weakers)

      to : Bit gained column → AsStrong ps b j
      to m =
          elim ((g column).0 m)
          [ inl e ↦ rw (same_place _ j b s.weakers.rising i p.1 (e ∙ p.2)) as_itself | inr h ↦ gives.only b j ((r j i).0 h) ]

      fro : AsStrong ps b j → Bit gained column
      fro h =
          (g column).1
          (elim (gives.told b j h) [ inl e ↦ inl (ap (λ n. below n (names s.weakers)) (sym e) ∙ sym p.2) | inr m ↦ inr ((r j i).1 m) ])

module _ (s : Strengths) (b own : ℕ) (p : PlacedIn (names s.weakers) b (Some own)) where
  abbrev own_mark : ℕ
  own_mark = 1 * 2 ^ own % 2 ^ 128

  pub reached_alone : PlacedIn (names s.strongers) b None → Reaches s b own_mark
  reached_alone n =
      reached s b own own_mark (λ y. ⊥) p
      (λ y. let one = one_bit own y p.0 in (λ m. inl (one.0 m), λ h. elim h [ inl e ↦ one.1 e | inr f ↦ absurd f ]))
      (λ j i. (λ f. absurd f, λ m. n m.stronger))

  pub reached_with_row : (row : ℕ) → PlacedIn (names s.strongers) b (Some row) → Reaches s b (bit_or own_mark (get_or s.marks row 0))
  reached_with_row row q =
      reached s b own (bit_or own_mark (get_or s.marks row 0)) (λ y. Marked s.marks row y) p joined
      (λ j i. (λ m. record { stronger = q.1; weaker = i; marked = rw q.2 at m }, λ m. rw q.2 m.marked))
    where
      joined : (y : ℕ) → Bit (bit_or own_mark (get_or s.marks row 0)) y ↔ ((y ≡ own) ⊎ Marked s.marks row y)
      joined y =
          let both = Bit-or own_mark (get_or s.marks row 0) y in
          let one = one_bit own y p.0 in
          (λ m. elim (both.0 m) [ inl w ↦ inl (one.0 w) | inr h ↦ inr h ], λ h. both.1 (elim h [ inl e ↦ inl (one.1 e) | inr m ↦ inr m ]))
