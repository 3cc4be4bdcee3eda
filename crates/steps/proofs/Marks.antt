-- Marks put into a table, one after another: a begin, by which the place in the table goes, and an end. Marks that stand apart are all there afterwards.
use Prim.Native.Nat.{ℕ, ◌+◌, ◌≤◌, ◌<◌}
use mathlib.Core.Path.{◌≡◌, refl, ◌∙◌}
use mathlib.Core.List.{List, [], ◌∷◌, ◌++◌}
use native.Mathlib.Omega.{arith}
use lib.ListN.{length, get_or, set, length-set}
use lib.Seq.{get_or-set_same, get_or-set_other}
use Rattle.steps.specs.Ends.{slot}

-- Where a second part begins, and where it ends.
abbrev pub Mark : Type 0
Mark = ℕ × ℕ

unfoldable pub marked : List ℕ → List Mark → List ℕ
marked ends [] = ends
marked ends (m ∷ ms) = marked (set ends (slot m.0) m.1) ms

pub marked_both : (ends : List ℕ) (ms ns : List Mark) → marked ends (ms ++ ns) ≡ marked (marked ends ms) ns
unfolding marked
marked_both ends [] ns = refl
marked_both ends (m ∷ ms) ns = marked_both (set ends (slot m.0) m.1) ms ns

-- ── Each mark of a list ──

pub data Each (P : Mark → Type 0) : List Mark → Type 0 where
  done : Each P []
  also : {m : Mark} {ms : List Mark} → P m → Each P ms → Each P (m ∷ ms)

module _ {P : Mark → Type 0} where
  pub the_one : {m : Mark} → Each P (m ∷ []) → P m
  the_one (also p h) = p

  each_both : {ms ns : List Mark} → Each P ms → Each P ns → Each P (ms ++ ns)
  each_both done k = k
  each_both (also p h) k = also p (each_both h k)

  pub each_split : (ms ns : List Mark) → Each P (ms ++ ns) → Each P ms × Each P ns
  each_split [] ns h = (done, h)
  each_split (m ∷ ms) ns (also p h) =
      let rest = each_split ms ns h in
      (also p rest.0, rest.1)

  pub each_so : {Q : Mark → Type 0} {ms : List Mark} → ((m : Mark) → P m → Q m) → Each P ms → Each Q ms
  each_so f done = done
  each_so f (also {m} p h) = also (f m p) (each_so f h)

-- ── Marks apart ──

-- No two have one place in the table.
abbrev Elsewhere : ℕ → Mark → Type 0
Elsewhere i m = i ≡ slot m.0 → ⊥

pub data Apart : List Mark → Type 0 where
  alone : Apart []
  beside : {m : Mark} {ms : List Mark} → Each (Elsewhere (slot m.0)) ms → Apart ms → Apart (m ∷ ms)

-- What no mark has is kept; and each of them is there.
kept : (i : ℕ) (ends : List ℕ) {ms : List Mark} → Each (Elsewhere i) ms → get_or (marked ends ms) i 0 ≡ get_or ends i 0
unfolding marked
kept i ends done = refl
kept i ends (also {m} p h) = kept i (set ends (slot m.0) m.1) h ∙ get_or-set_other ends (slot m.0) i m.1 0 p

abbrev pub Has : List ℕ → Mark → Type 0
Has ends m = get_or ends (slot m.0) 0 ≡ m.1

pub all_there : (ends : List ℕ) {ms : List Mark} → Apart ms → Each (λ m. slot m.0 < length ends) ms → Each (Has (marked ends ms)) ms
unfolding marked
all_there ends alone done = done
all_there ends (beside {m} far apart) (also p room) =
    let next = set ends (slot m.0) m.1 in
    let there = kept (slot m.0) next far ∙ get_or-set_same ends (slot m.0) m.1 0 p in
    also there (all_there next apart (rw (length-set ends (slot m.0) m.1) room))

-- Two lists, of which no two marks have one place.
apart_both : {P Q : Mark → Type 0} {ms ns : List Mark} → ((m n : Mark) → P m → Q n → slot m.0 ≡ slot n.0 → ⊥) → Each P ms → Each Q ns
    → Apart ms → Apart ns → Apart (ms ++ ns)
apart_both far done q alone b = b
apart_both far (also {m} p h) q (beside a rest) b = beside (each_both a (each_so (λ n. far m n p) q)) (apart_both far h q rest b)

-- ── Marks of a step ──

-- Begun from a place on, three bytes or more before another.
abbrev pub Within : ℕ → ℕ → Mark → Type 0
Within from to m = (from ≤ m.0) × (m.0 + 3 ≤ to)

-- The marks of a step from q to e.
pub record Spread (q e : ℕ) (ms : List Mark) : Type 0 where
  pub within : Each (Within (q + 3) e) ms
  pub apart : Apart ms

pub no_marks : {q e : ℕ} → Spread q e []
no_marks = record { within = done; apart = alone }

pub wider : {q e : ℕ} {ms : List Mark} (r f : ℕ) → Spread q e ms → r ≤ q → e ≤ f → Spread r f ms
wider r f s before after = record { within = each_so (λ m w. (omega arith, omega arith)) s.within; apart = s.apart }

-- Of two parts, one after the other; and of a 26, with the mark of its second part.
module _ {q m a : ℕ} {ms ns : List Mark} (first : Spread q m ms) (second : Spread m a ns) where
  pub both_parts : q ≤ m → m ≤ a → Spread q a (ms ++ ns)
  both_parts l k = record {
    within = each_both (each_so (λ x w. (w.0, omega arith)) first.within) (each_so (λ x w. (omega arith, w.1)) second.within);
    apart = apart_both (λ x y p r same. omega arith) first.within second.within first.apart second.apart;
  }

  pub with_mark : (x : Mark) (e : ℕ) → x.0 ≡ m → q + 3 ≤ m → m ≤ a → a ≤ e → m + 3 ≤ e → Spread q e (ms ++ (ns ++ (x ∷ [])))
  with_mark x e is l k f g =
      let here : Each (λ y. y.0 ≡ m) (x ∷ []) = also is done in
      let later : Each (Within m e) (ns ++ (x ∷ [])) = each_both (each_so (λ y w. (omega arith, omega arith)) second.within) (each_so (λ y w. (omega arith, omega arith)) here) in
      let own : Apart (ns ++ (x ∷ [])) = apart_both (λ y z w s same. omega arith) second.within here second.apart (beside done alone) in
      record {
        within = each_both (each_so (λ y w. (w.0, omega arith)) first.within) (each_so (λ y w. (omega arith, w.1)) later);
        apart = apart_both (λ y z w s same. omega arith) first.within later first.apart own;
      }
