-- Laws of digits: those that stand at a place, the value of some digits and of more after them, and the number that they spell.
use Prim.Native.Nat.{ℕ, ◌+◌, ◌-◌, ◌*◌, ◌≤◌, ◌<◌}
use mathlib.Core.Bool.{Bool, true, false}
use mathlib.Core.Path.{◌≡◌, refl, sym, ap, ap₂, ◌∙◌}
use mathlib.Core.List.{List, [], ◌∷◌, ◌++◌, append_assoc, append-nil}
use Rattle.std.specs.Prelude.{None, Some}
use mathlib.Core.Logic.{◌⊎◌, inl, inr}
use native.Mathlib.Numerals.{add-one}
use native.Mathlib.Omega.{arith}
use lib.ListN.{length, drop, get_or, length-append, drop_of_length-le}
use lib.Seq.{drop-cons}
use borrow.Author.Tests.{le-leb, lt-leb, ne_eqb}
use Rattle.procap.specs.Bytes.{then, ensure}
use Rattle.text.specs.Numbers.{digit_zero, is_digit, while_digit, leading_digits, value, one_spelling}
use Rattle.text.specs.Line.{digits, number_to}
use Rattle.text.specs.Places.{DigitReads}
use Rattle.text.proofs.Numerals.{digit_from, digit_to, value_append, starts, started_one}

-- ── The digits at a place ──

module _ (text : List ℕ) (at : ℕ) where
  -- There is none past the end.
  pub no_digits_past : length text ≤ at → leading_digits (drop at text) ≡ []
  unfolding leading_digits
  no_digits_past l = rw (drop_of_length-le text l)

  -- The byte that stands there is the first digit there if it is one, and else there is none.
  module _ (b : ℕ) (l : at < length text) (e : b ≡ get_or text at 0) where
    digit_first : is_digit b ≡ true → leading_digits (drop at text) ≡ b ∷ leading_digits (drop (at + 1) text)
    unfolding leading_digits while_digit
    digit_first d = rw (drop-cons text at 0 l, ← e, d, add-one at)

    pub digit_here : is_digit b ≡ true → DigitReads text at (Some (b - digit_zero))
    digit_here d =
        let low = digit_from b d in
        let high = digit_to b d in
        let whole : b ≡ digit_zero + (b - digit_zero) = omega arith in
        (omega arith, l, digit_first d ∙ ap (λ (b : ℕ). b ∷ leading_digits (drop (at + 1) text)) whole)

    pub no_digit_here : is_digit b ≡ false → leading_digits (drop at text) ≡ []
    unfolding leading_digits while_digit
    no_digit_here d = rw (drop-cons text at 0 l, ← e, d)

-- ── Values ──

-- More digits only make it larger.
value_grows : (n : ℕ) (ds : List ℕ) → n ≤ value n ds
unfolding value
value_grows n [] = omega arith
value_grows n (d ∷ ds) = omega (arith, value_grows (n * 10 + (d - digit_zero)) ds)

-- What a digit adds.
value_more : (n d : ℕ) (ds : List ℕ) → value n ((digit_zero + d) ∷ ds) ≡ value (n * 10 + d) ds
unfolding value
value_more n d ds = ap (λ (k : ℕ). value k ds) (omega arith)

-- The value from the first digit on.
value_first : (d : ℕ) (ds : List ℕ) → value 0 ((digit_zero + d) ∷ ds) ≡ value d ds
value_first d ds = value_more 0 d ds ∙ ap (λ (k : ℕ). value k ds) (omega arith)

-- ── The one spelling ──

-- Two digits of which the first is 0 are no spelling; digits of which it is not are one.
zero_and_more : (d e : ℕ) (ds es : List ℕ) → d ≡ 0 → one_spelling ((digit_zero + d) ∷ (ds ++ (e ∷ es))) ≡ false
unfolding one_spelling
zero_and_more d e [] es z = rw z
zero_and_more d e (f ∷ ds) es z = rw z

not_zero_first : (d : ℕ) (ds : List ℕ) → 0 < d → one_spelling ((digit_zero + d) ∷ ds) ≡ true
unfolding starts
not_zero_first d ds l = started_one ((digit_zero + d) ∷ ds) (rw (ne_eqb (digit_zero + d) digit_zero (λ z. omega arith)))

-- ── The number at a place ──

module _ (text : List ℕ) (limit at : ℕ) (ds : List ℕ) (e : leading_digits (drop at text) ≡ ds) where
  -- It is what the digits say, in their one spelling and within the limit; else there is none.
  number_here : one_spelling ds ≡ true → value 0 ds ≤ limit → number_to text limit at ≡ Some (value 0 ds, at + length ds)
  unfolding number_to digits then ensure
  number_here o l = rw (e, o, le-leb (value 0 ds) limit l)

  number_in_no_spelling : one_spelling ds ≡ false → number_to text limit at ≡ None
  unfolding number_to digits then ensure
  number_in_no_spelling o = rw (e, o)

  number_above : limit < value 0 ds → number_to text limit at ≡ None
  unfolding number_to digits then ensure
  number_above l = rw (e, lt-leb (value 0 ds) limit l) (by_spelling (one_spelling ds))
    where
      by_spelling : (b : Bool) → then {A = Unit {0}} {B = ℕ} (ensure b (at + length ds)) (λ _ _. None) ≡ None
      by_spelling true = refl
      by_spelling false = refl

-- ── The digits read so far ──

-- The first of some digits and the others, read from a place to the next one: they say n within the limit, in their one spelling.
pub record DigitsRead (text : List ℕ) (limit at n next : ℕ) : Type 0 where
  pub first : ℕ
  pub others : List ℕ
  pub split : leading_digits (drop at text) ≡ (digit_zero + first) ∷ (others ++ leading_digits (drop next text))
  pub place : next ≡ at + (1 + length others)
  pub says : value first others ≡ n
  pub within : n ≤ limit
  pub spelled : (others ≡ []) ⊎ (0 < first)

module _ (text : List ℕ) (limit at : ℕ) where
  -- There is no number where no digit is, and where the first one passes the limit.
  pub no_number : DigitReads text at None → number_to text limit at ≡ None
  unfolding one_spelling
  no_number h = number_in_no_spelling text limit at [] h refl

  pub first_above : (d : ℕ) → DigitReads text at (Some d) → limit < d → number_to text limit at ≡ None
  first_above d h l =
      let rest : List ℕ = leading_digits (drop (at + 1) text) in
      number_above text limit at ((digit_zero + d) ∷ rest) h.2 (omega (arith, value_first d rest, value_grows d rest))

  -- The first digit.
  pub started : (d : ℕ) → DigitReads text at (Some d) → d ≤ limit → DigitsRead text limit at d (at + 1)
  unfolding value
  started d h l = record { first = d; others = []; split = h.2; place = omega arith; says = refl; within = l; spelled = inl refl }

  module _ (n next : ℕ) (r : DigitsRead text limit at n next) where
    -- What is read is a number's one spelling.
    read_spelled : one_spelling ((digit_zero + r.first) ∷ r.others) ≡ true
    unfolding one_spelling
    read_spelled =
        elim r.spelled
        [ inl e ↦ ap (λ (ds : List ℕ). one_spelling ((digit_zero + r.first) ∷ ds)) e | inr l ↦ not_zero_first r.first r.others l ]

    -- With no digit more, the number is what they say.
    pub ended : DigitReads text next None → number_to text limit at ≡ Some (n, next)
    ended h =
        let ds : List ℕ = (digit_zero + r.first) ∷ r.others in
        let all : leading_digits (drop at text) ≡ ds = r.split ∙ rw (h, append-nil) in
        let says : value 0 ds ≡ n = value_first r.first r.others ∙ r.says in
        number_here text limit at ds all read_spelled (omega arith)
        ∙ ap₂ (λ (m e : ℕ). Some (m, e)) says (omega arith)

    module _ (d : ℕ) (h : DigitReads text next (Some d)) where
      -- All digits: those read, this one, and the rest.
      abbrev rest : List ℕ
      rest = leading_digits (drop (next + 1) text)

      abbrev all : List ℕ
      all = (digit_zero + r.first) ∷ (r.others ++ ((digit_zero + d) ∷ rest))

      all_split : leading_digits (drop at text) ≡ all
      all_split = r.split ∙ ap (λ (ds : List ℕ). (digit_zero + r.first) ∷ (r.others ++ ds)) h.2

      all_value : value 0 all ≡ value (n * 10 + d) rest
      all_value =
          value_first r.first (r.others ++ ((digit_zero + d) ∷ rest))
          ∙ value_append r.first r.others ((digit_zero + d) ∷ rest)
          ∙ ap (λ (k : ℕ). value k ((digit_zero + d) ∷ rest)) r.says
          ∙ value_more n d rest

      -- A digit after a lone 0 leaves no number, and so does one that passes the limit.
      pub after_zero : n ≡ 0 → number_to text limit at ≡ None
      after_zero z =
          let zero_first : r.first ≡ 0 = omega (arith, value_grows r.first r.others) in
          number_in_no_spelling text limit at all all_split (zero_and_more r.first (digit_zero + d) r.others rest zero_first)

      pub passed : limit < n * 10 + d → number_to text limit at ≡ None
      passed l = number_above text limit at all all_split (omega (arith, all_value, value_grows (n * 10 + d) rest))

      -- One digit more.
      pub more : (n ≡ 0 → ⊥) → n * 10 + d ≤ limit → DigitsRead text limit at (n * 10 + d) (next + 1)
      unfolding value
      more z l = record {
        first = r.first;
        others = r.others ++ ((digit_zero + d) ∷ []);
        split = all_split ∙ ap (λ (ds : List ℕ). (digit_zero + r.first) ∷ ds) (sym (append_assoc r.others ((digit_zero + d) ∷ []) rest));
        place = omega (arith, length-append r.others ((digit_zero + d) ∷ []));
        says =
            value_append r.first r.others ((digit_zero + d) ∷ [])
            ∙ ap (λ (k : ℕ). value k ((digit_zero + d) ∷ [])) r.says
            ∙ value_more n d [];
        within = l;
        spelled = inr (elim r.spelled [ inl e ↦ omega (arith, ap (value r.first) e) | inr l ↦ l ]);
      }
