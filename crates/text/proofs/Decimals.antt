-- How a number is spelled: a digit alone, or the spelling of its tenth and then its last digit; and how long the spelling is.
use Prim.Native.Nat.{ℕ, zero, suc, ◌+◌, ◌/◌, ◌%◌, ◌^◌, ◌≤◌, ◌<◌}
use mathlib.Core.Path.{◌≡◌, sym, ap, ◌∙◌}
use mathlib.Core.List.{[], ◌∷◌, ◌++◌}
use native.Mathlib.Nat.{pow-suc}
use native.Mathlib.Decide.{dec_lt}
use native.Mathlib.Omega.{arith}
use lib.ListN.{length, length-append}
use Rattle.procap.specs.Times.{latest}
use Rattle.procap.specs.Procaps.{most_facts, version_one}
use Rattle.procap.specs.Writable.{largest_name}
use Rattle.text.specs.Numbers.{digit_zero, most_digits, digits_of, decimal}
use Rattle.text.proofs.Numerals.{spelled_low, spelled_high}

-- The tenth of a number has a digit less.
tenth : (k n : ℕ) → n < 10 ^ suc k → n / 10 < 10 ^ k
tenth k n l = let e = pow-suc 10 k in omega arith

-- Room for one digit more changes nothing where all digits have room.
one_room_more : (k n : ℕ) → n < 10 ^ suc k → digits_of (suc k) n ≡ digits_of (suc (suc k)) n
one_room_more zero n l = spelled_low 0 n l ∙ sym (spelled_low 1 n l)
one_room_more (suc k) n l =
    elim (dec_lt n 10) [
      | yes p ↦ spelled_low (suc k) n p ∙ sym (spelled_low (suc (suc k)) n p)
      | no q ↦
          spelled_high (suc k) n (omega arith)
          ∙ ap (λ ds. ds ++ ((digit_zero + n % 10) ∷ [])) (one_room_more k (n / 10) (tenth (suc k) n l))
          ∙ sym (spelled_high (suc (suc k)) n (omega arith))
    ]

-- The spelling of a digit.
pub decimal_one : (n : ℕ) → n < 10 → decimal n ≡ (digit_zero + n) ∷ []
unfolding decimal
decimal_one n l = spelled_low 19 n l

-- The spelling of a longer number of 64 bits.
pub decimal_more : (n : ℕ) → 10 ≤ n → n < 2 ^ 64 → decimal n ≡ decimal (n / 10) ++ ((digit_zero + n % 10) ∷ [])
unfolding decimal
decimal_more n l m =
    spelled_high 19 n l
    ∙ ap (λ ds. ds ++ ((digit_zero + n % 10) ∷ [])) (one_room_more 18 (n / 10) (omega arith))

-- It has one digit more than its tenth.
pub one_digit_more : (n : ℕ) → 10 ≤ n → n < 2 ^ 64 → length (decimal n) ≡ length (decimal (n / 10)) + 1
one_digit_more n l m = ap length (decimal_more n l m) ∙ length-append (decimal (n / 10)) ((digit_zero + n % 10) ∷ [])

-- A spelling is not empty.
digits_some : (k n : ℕ) → 1 ≤ length (digits_of (suc k) n)
digits_some k n =
    elim (dec_lt n 10) [
      | yes p ↦ rw (spelled_low k n p) (omega arith)
      | no q ↦ rw (spelled_high k n (omega arith)) (simp length-append (omega arith))
    ]

pub decimal_some : (n : ℕ) → 1 ≤ length (decimal n)
unfolding decimal
decimal_some n = digits_some 19 n

-- The digits of a number below a power of ten: as many as the power says at the most.
digits_few : (j k n : ℕ) → n < 10 ^ suc k → length (digits_of j n) ≤ suc k
unfolding digits_of
digits_few zero k n l = omega arith
digits_few (suc j) zero n l = rw (spelled_low j n l) (omega arith)
digits_few (suc j) (suc k) n l =
    elim (dec_lt n 10) [
      | yes p ↦ rw (spelled_low j n p) (omega arith)
      | no q ↦
          rw (spelled_high j n (omega arith))
          (simp length-append (omega (arith, digits_few j k (n / 10) (tenth (suc k) n l))))
    ]

-- The spelling of a number below a power of ten.
decimal_few : (k n : ℕ) → n < 10 ^ suc k → length (decimal n) ≤ suc k
unfolding decimal
decimal_few k n l = digits_few 20 k n l

-- The lengths of the numbers of a text.
pub name_few : (n : ℕ) → n ≤ largest_name → length (decimal n) ≤ 5
name_few n l = decimal_few 4 n (omega arith)

pub moment_few : (n : ℕ) → n ≤ latest → length (decimal n) ≤ 13
moment_few n l = decimal_few 12 n (omega arith)

pub count_few : (n : ℕ) → n ≤ most_facts → length (decimal n) ≤ 2
count_few n l = decimal_few 1 n (omega arith)

pub version_few : (n : ℕ) → n ≤ version_one → length (decimal n) ≤ 1
version_few n l = decimal_few 0 n (omega arith)

-- No more digits than there is room for, whatever the number.
digits_within : (k n : ℕ) → length (digits_of k n) ≤ k
unfolding digits_of
digits_within zero n = omega arith
digits_within (suc k) n =
    elim (dec_lt n 10) [
      | yes p ↦ rw (spelled_low k n p) (omega arith)
      | no q ↦ rw (spelled_high k n (omega arith)) (simp length-append (omega (arith, digits_within k (n / 10))))
    ]

-- The lengths of the numbers of a refusal.
pub answer_few : (n : ℕ) → n ≤ 21 → length (decimal n) ≤ 2
answer_few n l = decimal_few 1 n (omega arith)

pub place_few : (n : ℕ) → length (decimal n) ≤ most_digits
unfolding decimal
place_few n = digits_within most_digits n
