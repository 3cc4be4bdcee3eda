-- Rows gain marks one after another: a row that had the mark of the column is joined with what is gained, and any other stays.
use Prim.Native.Nat.{ℕ, ◌+◌, ◌≤◌, ◌<◌}
use mathlib.Core.Path.{◌≡◌, ◌∙◌}
use mathlib.Core.List.{List}
use mathlib.Core.Logic.{inl, inr}
use native.Mathlib.Omega.{arith}
use native.Mathlib.Decide.{dec_lt}
use lib.Bits.{bit_or}
use lib.ListN.{length, get_or, set, get_or-eq_default}
use lib.Seq.{get_or-set_same, get_or-set_other}
use Rattle.std.proofs.Common.{below_more}
use Rattle.strength.specs.Marks.{Bit, RowGains, RowsGain}
use Rattle.strength.proofs.BitLaws.{Bit-or, no_bit}

module _ (column gained row : ℕ) where
  pub row_joined : Bit row column → RowGains column gained row (bit_or row gained)
  row_joined m y =
      let both = Bit-or row gained y in
      (λ b. elim (both.0 b) [ inl w ↦ inl w | inr g ↦ inr (m, g) ], λ h. both.1 (elim h [ inl w ↦ inl w | inr g ↦ inr g.1 ]))

  pub row_stays : (Bit row column → ⊥) → RowGains column gained row row
  row_stays n y = (λ b. inl b, λ h. elim h [ inl w ↦ w | inr g ↦ absurd (n g.0) ])

-- The rows before an index have gained, and the others are as they were.
pub record GainedBefore (column gained : ℕ) (rows more : List ℕ) (i : ℕ) : Type 0 where
  pub before : (x : ℕ) → x < i → RowGains column gained (get_or rows x 0) (get_or more x 0)
  pub behind : (x : ℕ) → i ≤ x → get_or more x 0 ≡ get_or rows x 0

module _ (column gained : ℕ) (rows more : List ℕ) (i : ℕ) (g : GainedBefore column gained rows more i) (l : i < length more) where
  -- The row at the index has come to another.
  row_done : (row : ℕ) → RowGains column gained (get_or more i 0) row → GainedBefore column gained rows (set more i row) (i + 1)
  row_done row gains =
      record {
        before = below_more _ i (λ x b. rw (get_or-set_other more i x row 0 (λ e. omega arith)) (g.before x b))
            (rw (get_or-set_same more i row 0 l, ← g.behind i (omega arith)) gains);
        behind = λ x b. get_or-set_other more i x row 0 (λ e. omega arith) ∙ g.behind x (omega arith);
      }

  pub row_gained : Bit (get_or more i 0) column → GainedBefore column gained rows (set more i (bit_or (get_or more i 0) gained)) (i + 1)
  row_gained m = row_done _ (row_joined column gained (get_or more i 0) m)

  pub row_passed : (Bit (get_or more i 0) column → ⊥) → GainedBefore column gained rows (set more i (get_or more i 0)) (i + 1)
  row_passed n = row_done (get_or more i 0) (row_stays column gained (get_or more i 0) n)

-- With all rows passed, each has gained.
pub all_gained : (column gained i : ℕ) (rows more : List ℕ) → GainedBefore column gained rows more i → length rows ≤ i → RowsGain column gained rows more
all_gained column gained i rows more g l x =
    elim (dec_lt x i) [ yes b ↦ g.before x b | no n ↦ rw (g.behind x (omega arith), get_or-eq_default rows 0 {n = x} (omega arith)) (row_stays column gained 0 (no_bit column)) ]
