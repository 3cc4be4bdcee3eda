-- Laws of pairs of hex digits: what two more digits add, and the bytes of the pairs read so far, which were put behind others.
use Prim.Native.Nat.{ℕ, ◌+◌, ◌*◌}
use mathlib.Core.Path.{◌≡◌, refl, sym, ap, ◌∙◌}
use mathlib.Core.List.{List, [], ◌∷◌, ◌++◌, append_assoc, append-nil}
use Rattle.std.specs.Prelude.{None, Some}
use native.Mathlib.Omega.{arith}
use lib.ListN.{length, drop, length-append}
use Rattle.cases.specs.Hex.{hex_value, leading_hex, paired}
use Rattle.cases.specs.Found.{DigitReads, PairFound, PairReads, PairsPut}

-- ── One pair ──

-- Two digits that stand at a place and the next one say a byte; where one of them is missing, fewer than two are left.
module _ (input : List ℕ) (at : ℕ) where
  pub no_first : DigitReads input at None → PairReads input at None
  no_first h = omega (arith, ap length h)

  module _ (high : ℕ) (h : DigitReads input at (Some high)) where
    pub no_second : DigitReads input (at + 1) None → PairReads input at None
    no_second l = omega (arith, ap length h.4, ap length l)

    pub pair_here : (low : ℕ) → DigitReads input (at + 1) (Some low) → PairReads input at (Some (high * 16 + low))
    pair_here low l =
        let two : at + 1 + 1 ≡ at + 2 = omega arith in
        record {
          high = h.0;
          low = l.0;
          say = omega (arith, h.1, l.1);
          inside = l.3;
          stand = h.4 ∙ ap (λ xs. h.0 ∷ xs) (l.4 ∙ ap (λ k. l.0 ∷ leading_hex (drop k input)) two);
        }

-- Two digits after pairs of them say one byte more.
paired_two_more : (ds : List ℕ) (d e : ℕ) → length ds ≡ 2 * length (paired ds)
    → paired (ds ++ (d ∷ e ∷ [])) ≡ paired ds ++ ((hex_value d * 16 + hex_value e) ∷ [])
unfolding paired
paired_two_more [] d e h = refl
paired_two_more (x ∷ []) d e h = absurd (omega arith)
paired_two_more (x ∷ y ∷ ds) d e h = ap (λ bs. (hex_value x * 16 + hex_value y) ∷ bs) (paired_two_more ds d e (omega arith))

-- ── The pairs read so far ──

-- Their bytes were put behind those before.
pub record PairsSoFar (input : List ℕ) (at : ℕ) (before : List ℕ) (next : ℕ) (after : List ℕ) : Type 0 where
  pub digits : List ℕ
  pub all_digits : leading_hex (drop at input) ≡ digits ++ leading_hex (drop next input)
  pub two_by_two : length digits ≡ 2 * length (paired digits)
  pub place : next ≡ at + length digits
  pub put : after ≡ before ++ paired digits

module _ (input : List ℕ) (at : ℕ) (before : List ℕ) where
  -- At first there are none.
  pub no_pairs : PairsSoFar input at before at before
  unfolding paired
  no_pairs = record { digits = []; all_digits = refl; two_by_two = refl; place = omega arith; put = sym (append-nil before) }

  module _ (next : ℕ) (after : List ℕ) (p : PairsSoFar input at before next after) where
    -- A pair more.
    module _ (byte : ℕ) (f : PairFound input next byte) where
      pub pair_more : PairsSoFar input at before (next + 2) (after ++ (byte ∷ []))
      pair_more =
          let two : List ℕ = f.high ∷ f.low ∷ [] in
          let ds = p.digits in
          let say : paired (ds ++ two) ≡ paired ds ++ (byte ∷ []) =
          paired_two_more ds f.high f.low p.two_by_two ∙ ap (λ b. paired ds ++ (b ∷ [])) f.say in
          record {
            digits = ds ++ two;
            all_digits = p.all_digits ∙ ap (λ xs. ds ++ xs) f.stand ∙ sym (append_assoc ds two (leading_hex (drop (next + 2) input)));
            two_by_two = omega (arith, length-append ds two, ap length say, length-append (paired ds) (byte ∷ []), p.two_by_two);
            place = omega (arith, length-append ds two, p.place);
            put = ap (λ xs. xs ++ (byte ∷ [])) p.put ∙ append_assoc before (paired ds) (byte ∷ []) ∙ sym (ap (λ xs. before ++ xs) say);
          }

    -- They are all, where no more than one digit is left.
    pub pairs_all : PairReads input next None → PairsPut input at before next after
    pairs_all l = record {
      digits = p.digits;
      all_digits = p.all_digits;
      two_by_two = p.two_by_two;
      one_left = l;
      place = p.place;
      put = p.put;
    }
