-- A bit of two rows joined is a bit of one of them, a row made of one bit has no other, and zero has none.
use Prim.Native.Nat.{ℕ, ◌+◌, ◌*◌, ◌/◌, ◌%◌, ◌^◌, ◌<◌, max}
use mathlib.Core.Path.{◌≡◌, sym, ap, ◌∙◌}
use mathlib.Core.Logic.{◌⊎◌, inl, inr, ◌↔◌}
use native.Mathlib.Omega.{arith}
use native.Mathlib.Decide.{ℕ_discrete}
use native.Mathlib.Nat.{zero-mul, one-mul}
use lib.Bits.{bit_or}
use lib.Pow.{shl_exact}
use Rattle.std.specs.Int.{bit_at}
use Rattle.std.specs.Int.Bits.{bit_and}
use Rattle.std.proofs.lemmas.Nat.Bits.{bit_at-zero, bit_at_or, bit_at-lt, bit_at-pow_same, bit_at-pow_other, bit_at_cat_low, and_pow}
use Rattle.std.proofs.lemmas.Nat.{pow-add, shr_split}
use Rattle.std.proofs.Math.Nat.{div-div-eq-div-mul}
use Rattle.strength.specs.Marks.{Bit}

pub Bit-or : (a b s : ℕ) → Bit (bit_or a b) s ↔ (Bit a s ⊎ Bit b s)
unfolding Bit
Bit-or a b s = rw (bit_at_or a b s) (of_two (bit_at a s) (bit_at b s) (bit_at-lt a s) (bit_at-lt b s))
  where
    of_two : (x y : ℕ) → x < 2 → y < 2 → (max x y ≡ 1) ↔ ((x ≡ 1) ⊎ (y ≡ 1))
    of_two x y l m = (λ e. elim (ℕ_discrete x 1) [ yes q ↦ inl q | no n ↦ inr (omega (arith, n)) ], λ h. elim h [ inl e ↦ omega arith | inr e ↦ omega arith ])

pub no_bit : (s : ℕ) → Bit 0 s → ⊥
unfolding Bit
no_bit s h = omega (arith, bit_at-zero s)

pub one_bit : (s t : ℕ) → s < 128 → Bit (1 * 2 ^ s % 2 ^ 128) t ↔ (t ≡ s)
unfolding Bit
one_bit s t l =
    let e : 1 * 2 ^ s % 2 ^ 128 ≡ 2 ^ s = shl_exact 1 s 128 (omega arith) (omega arith) ∙ one-mul (2 ^ s) in
    rw e (only, λ q. rw q (bit_at-pow_same s))
  where
    only : bit_at (2 ^ s) t ≡ 1 → t ≡ s
    only h = elim (ℕ_discrete t s) [ yes q ↦ q | no n ↦ let none = bit_at-pow_other s t n in omega arith ]

-- A bit of a row is one of the 64 from a bit on, where it lies among them.
bit_of_half : (row from place : ℕ) → place < 64 → bit_at (row / 2 ^ from % 2 ^ 64) place ≡ bit_at row (from + place)
bit_of_half row from place l =
    let half = row / 2 ^ from in
    let low : bit_at (half % 2 ^ 64) place ≡ bit_at half place =
    sym (bit_at_cat_low (half / 2 ^ 64) 64 (half % 2 ^ 64) place l) ∙ ap (λ n. bit_at n place) (shr_split half 64) in
    let shifted : half / 2 ^ place ≡ row / 2 ^ (from + place) =
    div-div-eq-div-mul row (2 ^ from) (2 ^ place) ∙ ap (λ n. row / n) (sym (pow-add 2 from place)) in
    low ∙ ap (λ n. n % 2) shifted

-- What the half and a word of one bit have in common: that bit, where the row has it, and nothing else.
common : (row from place : ℕ) → place < 64 → bit_and (row / 2 ^ from % 2 ^ 64) (1 * 2 ^ place % 2 ^ 64) ≡ bit_at row (from + place) * 2 ^ place
common row from place l =
    let e : 1 * 2 ^ place % 2 ^ 64 ≡ 2 ^ place = shl_exact 1 place 64 (omega arith) (omega arith) ∙ one-mul (2 ^ place) in
    rw e (and_pow (row / 2 ^ from % 2 ^ 64) place ∙ ap (λ b. b * 2 ^ place) (bit_of_half row from place l))

pub bit_there : (row from place : ℕ) → place < 64 → (bit_and (row / 2 ^ from % 2 ^ 64) (1 * 2 ^ place % 2 ^ 64) ≡ 0 → ⊥) → Bit row (from + place)
unfolding Bit
bit_there row from place l n =
    elim (ℕ_discrete (bit_at row (from + place)) 1) [
      | yes e ↦ e
      | no m ↦
          let none : bit_at row (from + place) ≡ 0 = omega (arith, m, bit_at-lt row (from + place)) in
          absurd (n (common row from place l ∙ ap (λ b. b * 2 ^ place) none ∙ zero-mul (2 ^ place)))
    ]

pub bit_missing : (row from place : ℕ) → place < 64 → bit_and (row / 2 ^ from % 2 ^ 64) (1 * 2 ^ place % 2 ^ 64) ≡ 0 → Bit row (from + place) → ⊥
unfolding Bit
bit_missing row from place l e h =
    let nothing : 2 ^ place ≡ 0 = sym (one-mul (2 ^ place)) ∙ ap (λ b. b * 2 ^ place) (sym h) ∙ sym (common row from place l) ∙ e in
    no_bit place (sym (ap (λ p. bit_at p place) nothing) ∙ bit_at-pow_same place)
