-- A record that is read in the part of the bytes that is its own is the record at its place, since each of its numbers is the number at its place.
use Prim.Native.Nat.{ℕ, ◌+◌, ◌-◌, ◌≤◌}
use native.Mathlib.Omega.{arith}
use mathlib.Core.Path.{◌≡◌, refl, sym, ap, ap₂, ◌∙◌}
use mathlib.Core.List.{List}
use Rattle.std.specs.List.{slice_range}
use Rattle.std.proofs.lemmas.List.{drop-take, take-take, drop-drop, length-take-le, length-drop}
use lib.ListN.{length, take, drop}
use Rattle.procap.specs.Bytes.{big_endian, number}
use Rattle.procap.specs.Numbered.{of_numbers}
use Rattle.procap.proofs.Numbers.{number_read}
use Rattle.from_c.specs.Numbers.{or_zero, wide_term}
use Rattle.from_c.specs.Records.{record_bytes, whole_record, time_of}

module _ (bytes : List ℕ) (at m : ℕ) (there : at + m ≤ length bytes) where
  -- The part.
  abbrev part : List ℕ
  part = take m (drop at bytes)

  part_length : length part ≡ m
  part_length = length-take-le m (drop at bytes) (rw length-drop (omega (arith, there)))

  -- A number that lies in the part is the number at its place in all the bytes.
  number_in_part : (k j place : ℕ) → place ≡ at + j → j + k ≤ m → or_zero (number part k j) ≡ or_zero (number bytes k place)
  unfolding or_zero
  number_in_part k j place is inside =
      let rest : j + (m - j) ≡ m = omega arith in
      let same : take k (drop j part) ≡ take k (drop (at + j) bytes) =
      ap (λ i. take k (drop j (take i (drop at bytes)))) (sym rest)
      ∙ ap (take k) (drop-take j (m - j) (drop at bytes))
      ∙ take-take k (m - j) (drop j (drop at bytes)) (omega arith)
      ∙ ap (take k) (drop-drop j at bytes) in
      let n = big_endian 0 (take k (drop (at + j) bytes)) in
      rw (
        is,
        number_read part k j n (omega (arith, part_length)) (ap (big_endian 0) (sym same)),
        number_read bytes k (at + j) n (omega (arith, there)) refl,
      )
      refl

  -- So is a term of nine bytes.
  term_in_part : (j place : ℕ) → place ≡ at + j → j + 9 ≤ m → time_of (wide_term part j) ≡ time_of (wide_term bytes place)
  term_in_part j place is inside =
      ap₂ (λ kind value. time_of (of_numbers kind value))
      (number_in_part 1 j place is (omega arith))
      (number_in_part 8 (j + 1) (place + 1) (omega arith) (omega arith))

-- The record that its own bytes are is the record at its place.
pub whole_in_part : (bytes : List ℕ) (at : ℕ) → at + record_bytes ≤ length bytes → whole_record (slice_range bytes at (at + record_bytes)) 0 ≡ whole_record bytes at
whole_in_part bytes at there =
    let own : at + record_bytes - at ≡ record_bytes = omega arith in
    let m = record_bytes in
    ap (λ n. whole_record (take n (drop at bytes)) 0) own
    ∙ (λ d. record {
      principal = number_in_part bytes at m there 2 0 at (omega arith) (omega arith) d;
      from = term_in_part bytes at m there 2 (at + 2) (omega arith) (omega arith) d;
      to = term_in_part bytes at m there 11 (at + 11) (omega arith) (omega arith) d;
      start = number_in_part bytes at m there 8 20 (at + 20) (omega arith) (omega arith) d;
      length = number_in_part bytes at m there 8 28 (at + 28) (omega arith) (omega arith) d;
    })
