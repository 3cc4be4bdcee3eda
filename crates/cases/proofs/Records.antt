-- Laws of the records of groups and of the buffer of their formulas: one group more at the end, and the records in their array.
use Prim.Native.Nat.{ℕ, suc, ◌+◌, ◌<◌}
use mathlib.Core.Path.{◌≡◌, refl, sym, ap, ap₂, ◌∙◌}
use mathlib.Core.List.{List, [], ◌∷◌, ◌++◌, append_assoc, append-nil}
use native.Mathlib.Nat.{add-zero}
use native.Mathlib.Omega.{arith}
use lib.ListN.{length, take, set, length-append}
use lib.Seq.{take_at}
use Rattle.procap.specs.Lists.{pad}
use Rattle.procap.proofs.Indices.{pad_more}
use Rattle.bl.specs.declared.Certificate.{Certificate}
use Rattle.verifier.specs.Verifying.{no_record}
use Rattle.cases.specs.Case.{Group, buffer_of, record_at, records_from}

-- The formula of a group more comes after the others.
pub buffer_more : (gs : List Group) (g : Group) → buffer_of (gs ++ (g ∷ [])) ≡ buffer_of gs ++ g.says
unfolding buffer_of
buffer_more [] g = append-nil g.says
buffer_more (f ∷ gs) g = ap (λ bs. f.says ++ bs) (buffer_more gs g) ∙ sym (append_assoc f.says (buffer_of gs) g.says)

-- So does its record, and its formula begins where theirs end.
records_more : (start : ℕ) (gs : List Group) (g : Group)
    → records_from start (gs ++ (g ∷ [])) ≡ records_from start gs ++ (record_at (start + length (buffer_of gs)) g ∷ [])
unfolding buffer_of records_from
records_more start [] g = ap (λ k. record_at k g ∷ []) (sym (add-zero start))
records_more start (f ∷ gs) g =
    ap (λ rs. record_at start f ∷ rs)
    (records_more (start + length f.says) gs g
    ∙ ap (λ k. records_from (start + length f.says) gs ++ (record_at k g ∷ [])) place)
  where
    place : start + length f.says + length (buffer_of gs) ≡ start + length (f.says ++ buffer_of gs)
    place = simp length-append (omega arith)

-- There are as many records as groups.
as_many_records : (start : ℕ) (gs : List Group) → length (records_from start gs) ≡ length gs
unfolding records_from
as_many_records start [] = refl
as_many_records start (g ∷ gs) = ap suc (as_many_records (start + length g.says) gs)

-- The record of a group more, put where the zeros of the array begin.
pub record_stored : (n : ℕ) (gs : List Group) (g : Group) (i end : ℕ) → length gs ≡ i → end ≡ length (buffer_of gs) → i < n
    → set (pad n no_record (records_from 0 gs)) i (record_at end g) ≡ pad n no_record (records_from 0 (gs ++ (g ∷ [])))
record_stored n gs g i end counted e l =
    ap₂ (λ (k : ℕ) (c : Certificate). set (pad n no_record (records_from 0 gs)) k c) place its_record
    ∙ pad_more n no_record (records_from 0 gs) (record_at (0 + length (buffer_of gs)) g) (omega (arith, place))
    ∙ ap (pad n no_record) (sym (records_more 0 gs g))
  where
    place : i ≡ length (records_from 0 gs)
    place = sym (as_many_records 0 gs ∙ counted)

    its_record : record_at end g ≡ record_at (0 + length (buffer_of gs)) g
    its_record = ap (λ k. record_at k g) (omega arith)

-- The first of an array that has zeros past the records of the groups are these records.
pub records_kept : (n count : ℕ) (records : List Certificate) (gs : List Group) → length gs ≡ count
    → records ≡ pad n no_record (records_from 0 gs) → take count records ≡ records_from 0 gs
unfolding pad
records_kept n count records gs counted kept = rw kept (take_at (records_from 0 gs) _ count (as_many_records 0 gs ∙ counted))
