-- Numbers that are in order and strengths that have the same names and marks put the same principals above each other.
use Prim.Native.Nat.{ℕ, ◌-◌, ◌<◌}
use mathlib.Core.Path.{◌≡◌, sym, ap, ◌∙◌}
use mathlib.Core.List.{List, ◌++◌, append_assoc}
use mathlib.Core.Logic.{inl, inr}
use native.Mathlib.Omega.{arith}
use lib.ListN.{length, get_or, take, drop, length-drop, length-append}
use lib.Seq.{take_all, length-take-le, take_at, drop_at, drop-drop}
use Rattle.std.specs.Prelude.{None, Some}
use Rattle.procap.specs.Lists.{In}
use Rattle.rising.specs.Rising.{below}
use Rattle.rising.proofs.RisingLaws.{stands_at}
use Rattle.bl.specs.Strength.{Pair, most_pairs}
use Rattle.strength.specs.declared.table.Strengths.{Strengths}
use Rattle.strength.specs.Strengths.{HandedStrengthsOf, StrengthsLent, LentAbove, LentStrengthsOf}
use Rattle.strength.specs.InNumbers.{names_numbers, marks_at, mark_words, strength_numbers, strongers, weakers, marks, names, Ordered, InOrder, MarkedAbove, StrengthsOf, HasNames, TakesNumbers, counted, words, numbers_of}
use Rattle.strength.specs.Strengths as table
use Rattle.strength.proofs.WordsOfRows.{same_marks, words_length}

-- The part of a list from a place to the end.
pub to_the_end : (n : ℕ) (l : List ℕ) → take (length l - n) (drop n l) ≡ drop n l
to_the_end n l = take_all (length l - n) (drop n l) (omega (arith, length-drop n l))

-- The place of a name that stands in a list that is in order is one of 128.
placed_below : (numbers : List ℕ) (name : ℕ) → Ordered numbers → In name (names numbers) → below name (names numbers) < most_pairs
placed_below numbers name o i =
    let most = length-take-le (get_or numbers 0 0) (drop 1 numbers) (omega (arith, length-drop 1 numbers, o.size, o.few)) in
    omega (arith, (stands_at name (names numbers) o.rising i).0, most, o.few)

module _ (numbers : List ℕ) (s : Strengths) (o : InOrder numbers) (above : table.names s.strongers ≡ names (strongers numbers))
    (under : table.names s.weakers ≡ names (weakers numbers)) (same : words s.marks ≡ marks numbers) where
  above_there : (k j : ℕ) → MarkedAbove numbers k j → table.MarkedAbove s k j
  above_there k j m =
      let marked = (same_marks s.marks _ _ (placed_below (weakers numbers) j o.under m.weaker)).0 (rw same m.marked) in
      record { stronger = rw above m.stronger; weaker = rw under m.weaker; marked = rw (above, under) marked }

  above_here : (k j : ℕ) → table.MarkedAbove s k j → MarkedAbove numbers k j
  above_here k j m =
      let weaker : In j (names (weakers numbers)) = rw under at m.weaker in
      let marked = (same_marks s.marks _ _ (placed_below (weakers numbers) j o.under weaker)).1 (rw (above, under) at m.marked) in
      record { size = o.size; stronger = rw above at m.stronger; weaker = weaker; marked = rw same at marked }

  -- So they are strengths of the same pairs.
  pub pairs_there : (ps : List Pair) → StrengthsOf numbers ps → table.StrengthsOf s ps
  pairs_there ps given =
      record {
        told = λ k j h. elim (given.told k j h) [ inl e ↦ inl e | inr m ↦ inr (above_there k j m) ];
        only = λ k j m. given.only k j (above_here k j m);
      }

  pub pairs_here : (ps : List Pair) → table.StrengthsOf s ps → StrengthsOf numbers ps
  pairs_here ps given =
      record {
        ordered = λ _. o;
        told = λ k j h. elim (given.told k j h) [ inl e ↦ inl e | inr m ↦ inr (above_here k j m) ];
        only = λ k j m. given.only k j (above_there k j m);
      }

-- Strengths are handed back, and lent.
pub handed : (s : Strengths) (ps : List Pair) → table.StrengthsOf s ps → HandedStrengthsOf (Some s) ps
handed s ps given None e = absurd (cc)
handed s ps given (Some lent) e = let same : lent.now ≡ s = cc in rw same given

-- What numbers in order hold is handed back.
pub some_handed : (numbers : List ℕ) (s : Strengths) → length numbers ≡ strength_numbers → HasNames (strongers numbers) s.strongers → HasNames (weakers numbers) s.weakers
    → words s.marks ≡ marks numbers → TakesNumbers numbers (Some s)
some_handed numbers s size above under same ps given =
    let o = given.ordered size in
    handed s ps (pairs_there numbers s o (above o.above) (under o.under) same ps given)

-- Strengths as numbers are in order, and have the three parts.
module _ (s : Strengths) (above_size : length s.strongers.numbers ≡ most_pairs) (under_size : length s.weakers.numbers ≡ most_pairs)
    (rows : length s.marks ≡ most_pairs) where
  parts : numbers_of s ≡ counted s.strongers ++ (counted s.weakers ++ words s.marks)
  parts = append_assoc (counted s.strongers) (counted s.weakers) (words s.marks)

  strongers_are : strongers (numbers_of s) ≡ counted s.strongers
  strongers_are = ap strongers parts ∙ take_at (counted s.strongers) (counted s.weakers ++ words s.marks) names_numbers (omega arith)

  behind : drop names_numbers (numbers_of s) ≡ counted s.weakers ++ words s.marks
  behind = ap (drop names_numbers) parts ∙ drop_at (counted s.strongers) (counted s.weakers ++ words s.marks) names_numbers (omega arith)

  weakers_are : weakers (numbers_of s) ≡ counted s.weakers
  weakers_are = ap (take names_numbers) behind ∙ take_at (counted s.weakers) (words s.marks) names_numbers (omega arith)

  marks_are : marks (numbers_of s) ≡ words s.marks
  marks_are =
      sym (drop-drop names_numbers names_numbers (numbers_of s)) ∙ ap (drop names_numbers) behind
      ∙ drop_at (counted s.weakers) (words s.marks) names_numbers (omega arith)

  as_many : length (numbers_of s) ≡ strength_numbers
  as_many =
      let names = length-append (counted s.strongers) (counted s.weakers) in
      let all = length-append (counted s.strongers ++ counted s.weakers) (words s.marks) in
      let rest : length (words s.marks) ≡ mark_words = words_length s.marks ∙ omega arith in
      let front : length (counted s.strongers ++ counted s.weakers) ≡ marks_at = names ∙ omega arith in
      all ∙ omega (arith, rest, front)

  in_order : InOrder (numbers_of s)
  in_order =
      record {
        size = as_many;
        above = rw strongers_are (record { size = omega arith; few = s.strongers.few; rising = s.strongers.rising });
        under = rw weakers_are (record { size = omega arith; few = s.weakers.few; rising = s.weakers.rising });
      }

  pub pairs_put : (ps : List Pair) → table.StrengthsOf s ps → StrengthsOf (numbers_of s) ps
  pairs_put = pairs_here (numbers_of s) s in_order (sym (ap names strongers_are)) (sym (ap names weakers_are)) (sym marks_are)
