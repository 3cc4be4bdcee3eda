-- By strengths that are numbers, too, one principal is as strong as another where it is the same, and else where it is marked above it.
use Prim.Native.Nat.{ℕ, ◌+◌, ◌*◌, ◌/◌, ◌%◌}
use mathlib.Core.Path.{◌≡◌, ap, ◌∙◌}
use mathlib.Core.Bool.{Bool, true, false}
use mathlib.Core.List.{List}
use mathlib.Core.Logic.{inl, inr}
use native.Mathlib.Omega.{arith}
use lib.ListN.{length, get_or}
use lib.Seq.{get_or-drop}
use Rattle.std.specs.Prelude.{Some}
use Rattle.procap.specs.Tells.{Tells}
use Rattle.procap.proofs.Telling.{tells_by}
use Rattle.bl.specs.Strength.{as_itself}
use Rattle.strength.specs.Marks.{Bit}
use Rattle.strength.specs.Places.{PlacedIn}
use Rattle.strength.specs.InNumbers.{marks_at, strength_numbers, names, strongers, weakers, marks, Ordered, Marked, TellsStrength}

module _ (numbers : List ℕ) (k j : ℕ) where
  pub tells_itself : k ≡ j → TellsStrength numbers k j true
  tells_itself e ps s = rw e as_itself

  -- Of numbers that are not as many as strengths take nobody is told to be stronger.
  pub no_table : (k ≡ j → ⊥) → (length numbers ≡ strength_numbers → ⊥) → TellsStrength numbers k j false
  no_table other n ps s a = elim (s.told k j a) [ inl e ↦ other e | inr m ↦ n m.size ]

  -- Of two that have places the mark tells, which is a bit of one of the words.
  module _ (row column : ℕ) (other : k ≡ j → ⊥) (size : length numbers ≡ strength_numbers)
      (above : Ordered (strongers numbers) → PlacedIn (names (strongers numbers)) k (Some row))
      (under : Ordered (weakers numbers) → PlacedIn (names (weakers numbers)) j (Some column)) where
    word_at : get_or (marks numbers) (row * 2 + column / 64) 0 ≡ get_or numbers (marks_at + row * 2 + column / 64) 0
    word_at =
        let e : marks_at + (row * 2 + column / 64) ≡ marks_at + row * 2 + column / 64 = omega arith in
        get_or-drop marks_at numbers (row * 2 + column / 64) 0 ∙ ap (λ n. get_or numbers n 0) e

    pub tells_by_mark : (r : Bool) → Tells r (Bit (get_or numbers (marks_at + row * 2 + column / 64) 0) (column % 64)) → TellsStrength numbers k j r
    tells_by_mark r t ps s =
        let o = s.ordered size in
        let p = above o.above in
        let q = under o.under in
        let set : Tells r (Marked (marks numbers) row column) = rw word_at t in
        tells_by r
        (λ m. s.only k j (record { size = size; stronger = p.1; weaker = q.1; marked = rw (p.2, q.2) at m }))
        (λ a. elim (s.told k j a) [ inl e ↦ absurd (other e) | inr m ↦ rw (p.2, q.2) m.marked ]) set
