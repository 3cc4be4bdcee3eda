-- Laws of lines of hex: a line reads as the bytes of its pairs where a line feed stands after these. A line feed is no digit; so where one
-- stands after the pairs these are all digits, and where none does, either a digit is left over or the line's end is missing.
use Prim.Native.Nat.{ℕ, ◌+◌, ◌*◌, ◌%◌, ◌≤◌}
use mathlib.Core.Bool.{true, false}
use mathlib.Core.Path.{◌≡◌, refl, ap, ◌∙◌}
use mathlib.Core.List.{List, [], ◌∷◌, ◌++◌, append-nil}
use Rattle.std.specs.Prelude.{None, Some}
use native.Mathlib.Omega.{arith}
use lib.ListN.{length, drop, length-append}
use borrow.Author.Tests.{eq-eqb, ne_eqb}
use Rattle.procap.specs.Bytes.{then, ensure}
use Rattle.procap.proofs.Readers.{so_read}
use Rattle.text.specs.Numbers.{is_digit}
use Rattle.text.specs.Words.{bytes_of}
use Rattle.text.specs.Line.{literal}
use Rattle.text.specs.LinesInARow.{at_line}
use Rattle.text.proofs.Readers.{Takes, literal_read}
use Rattle.cases.specs.Hex.{is_letter, is_hex, leading_hex, in_pairs, paired}
use Rattle.cases.specs.CaseLines.{hex_digits, hex_line}
use Rattle.cases.specs.Found.{ReadSoFar, PairsPut, WentOn, gone_to}
use Rattle.cases.proofs.WentOn.{found_there}
use Rattle.cases.proofs.HexDigits.{leading_none}

-- Twice as many digits as bytes are in pairs, and one more are not.
even_in_pairs : (ds : List ℕ) → length ds ≡ 2 * length (paired ds) → in_pairs ds ≡ true
unfolding in_pairs
even_in_pairs ds e = eq-eqb (length ds % 2) 0 (omega arith)

odd_in_no_pairs : (ds : List ℕ) (d : ℕ) → length ds ≡ 2 * length (paired ds) → in_pairs (ds ++ (d ∷ [])) ≡ false
unfolding in_pairs
odd_in_no_pairs ds d e = ne_eqb (length (ds ++ (d ∷ [])) % 2) 0 (λ z. omega (arith, length-append ds (d ∷ [])))

-- A word that was read takes its bytes.
word_takes : (input word : List ℕ) (at next : ℕ) → literal input word at ≡ Some (tt, next) → Takes input at word next
word_takes input word at next e = (so_read (literal input word at) e (literal_read word at)).0

-- Where a line feed stands there are no digits.
no_hex_at_end : (input : List ℕ) (at next : ℕ) → literal input (bytes_of "\n") at ≡ Some (tt, next) → leading_hex (drop at input) ≡ []
unfolding is_hex is_digit is_letter
no_hex_at_end input at next e =
    ap leading_hex (word_takes input (bytes_of "\n") at next e).says ∙ leading_none 10 (drop next input) refl

module _ (input word : List ℕ) (at : ℕ) where
  -- Without its word there is no line.
  pub hex_no_word : literal input word at ≡ None → hex_line input word at ≡ None
  unfolding hex_line then
  hex_no_word e = rw e

  module _ (first : ℕ) (e : literal input word at ≡ Some (tt, first)) where
    -- After the word stand just these digits: the line is of their bytes if they are in pairs and its end follows; else there is none.
    module _ (ds : List ℕ) (d : leading_hex (drop first input) ≡ ds) where
      hex_odd : in_pairs ds ≡ false → hex_line input word at ≡ None
      unfolding hex_line hex_digits then ensure
      hex_odd o = rw (e, d, o)

      hex_no_end : in_pairs ds ≡ true → literal input (bytes_of "\n") (first + length ds) ≡ None → hex_line input word at ≡ None
      unfolding hex_line hex_digits then ensure
      hex_no_end o n = rw (e, d, o, n)

      hex_here : (next : ℕ) → in_pairs ds ≡ true → literal input (bytes_of "\n") (first + length ds) ≡ Some (tt, next)
          → hex_line input word at ≡ Some (paired ds, next)
      unfolding hex_line hex_digits then ensure
      hex_here next o n = rw (e, d, o, n)

    module _ (before : List ℕ) (pairs_end : ℕ) (after : List ℕ) (p : PairsPut input first before pairs_end after) where
      -- With no digit left the digits are those of the pairs.
      just_pairs : leading_hex (drop pairs_end input) ≡ [] → leading_hex (drop first input) ≡ p.digits
      just_pairs z = p.all_digits ∙ ap (λ xs. p.digits ++ xs) z ∙ append-nil p.digits

      -- A line feed after the pairs ends the line, which passed two places for each byte.
      pub hex_ends : (next : ℕ) → literal input (bytes_of "\n") pairs_end ≡ Some (tt, next)
          → hex_line input word at ≡ Some (paired p.digits, next)
      hex_ends next n =
          let all = just_pairs (no_hex_at_end input pairs_end next n) in
          hex_here p.digits all next (even_in_pairs p.digits p.two_by_two) (rw p.place at n)

      -- With none there the line does not read.
      pub hex_ends_not : literal input (bytes_of "\n") pairs_end ≡ None → hex_line input word at ≡ None
      hex_ends_not n = by (leading_hex (drop pairs_end input)) refl p.one_left
        where
          by : (rest : List ℕ) → leading_hex (drop pairs_end input) ≡ rest → length rest ≤ 1 → hex_line input word at ≡ None
          by [] z l = hex_no_end p.digits (just_pairs z) (even_in_pairs p.digits p.two_by_two) (rw p.place at n)
          by (d ∷ []) z l =
              let all = p.all_digits ∙ ap (λ xs. p.digits ++ xs) z in
              hex_odd (p.digits ++ (d ∷ [])) all (odd_in_no_pairs p.digits d p.two_by_two)
          by (d ∷ f ∷ rest) z l = absurd (omega arith)

-- From the pairs on one goes to the next line, and their bytes are put behind those before.
pub hex_went : (old pairs new : ReadSoFar) (word : List ℕ) (first next : ℕ) → literal old.input word old.at ≡ Some (tt, first)
    → PairsPut old.input first old.bytes pairs.at pairs.bytes → pairs.input ≡ old.input → pairs.line ≡ old.line
    → literal pairs.input (bytes_of "\n") pairs.at ≡ Some (tt, next) → new ≡ gone_to pairs next
    → WentOn (at_line old.line (hex_line old.input word old.at)) old new (λ bytes (_ : Unit {0}). new.bytes ≡ old.bytes ++ bytes) tt
hex_went old pairs new word first next e p input line n gone =
    let says = hex_ends old.input word old.at first e old.bytes pairs.at pairs.bytes p next (rw input at n) in
    rw (gone, line) (record {
      found = paired p.digits;
      reads = found_there _ old.line (paired p.digits) next says;
      same = input;
      is_of = p.put;
    })
