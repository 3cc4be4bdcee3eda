-- What a step takes of a formula in bytes, by the tag that stands there: its parts, with what they mean; or nothing.
use Prim.Native.Nat.{ℕ, ◌+◌, ◌<◌}
use mathlib.Core.Path.{◌≡◌, refl}
use mathlib.Core.List.{List}
use Rattle.std.proofs.lemmas.Option.{none-some, same_Some}
use Rattle.std.specs.Prelude.{None, Option, Some}
use lib.ListN.{length}
use Rattle.bl.specs.declared.FormulaTag.{FormulaTag}
use Rattle.bl.specs.declared.FormulaTag.TheVariants.{TopTag, AndTag, ImpliesTag, AllNamesTag, AllTimesTag, SaysTag, AtTag, AtomTag, FactTag, OrderTag, OrTag, FalsityTag}
use Rattle.bl.specs.Trees.{Formula}
use Rattle.bl.specs.Formulas.{most_formula_levels}
use Rattle.bl.specs.Questions.{done, misfit}
use Rattle.ledger.specs.declared.Ledger.{Ledger}
use Rattle.formula.specs.declared.parts.FormulaAt.{FormulaAt}
use Rattle.formula.specs.declared.parts.Judgement.{Judgement}
use Rattle.ledger.specs.Books.{misfitted}
use Rattle.formula.specs.Meaning.{tag_of, begin, Means, On, FormulaEndsIfAny}
use Rattle.judging.specs.Judging.{part_of, sides, TwoSided, Takes, takes, unfit}
use Rattle.formula.proofs.Shapes.{inside, TwoParts, and_shape, implies_shape, or_shape, not_and, not_implies, not_or}
use Rattle.judging.proofs.WalkParts.{and_parts, no_and, implies_parts, no_implies, or_parts, no_or}

-- The place after a byte that stands inside.
abbrev pub After : List ℕ → ℕ → ℕ → Type 0
After bytes place next = place < length bytes → next ≡ place + 1

-- A formula of at most so many levels that begins at a place ends there.
abbrev EndsAt : List ℕ → ℕ → Option ℕ → Type 0
EndsAt bytes place end = FormulaEndsIfAny bytes most_formula_levels place end

-- A part that begins at a place, on the same interval.
pub part_on : {bytes : List ℕ} (j : Judgement) {A : Formula} {part : Judgement} {at place : ℕ}
    → part ≡ part_of j at → at ≡ place
    → Means bytes 0 (begin j.formula place) A → On bytes part A j.from j.to
part_on j e f m = rw (e, f) (record { means = m; from = refl; to = refl })

module _ {bytes : List ℕ} {f : FormulaAt} {F : Formula} (m : Means bytes 0 f F) (q : ℕ) where
  -- By the tag that is wanted: its two parts, or nothing.
  record Sided (wanted : FormulaTag) : Type 0 where
    there : tag_of bytes f.at ≡ Some wanted
        → (A : Formula) × (B : Formula) × (sides wanted q F ≡ done (A, B)) × TwoParts bytes 0 f m A B
    missing : (tag_of bytes f.at ≡ Some wanted → ⊥) → sides wanted q F ≡ misfit q

  sided : (wanted : FormulaTag) → TwoSided wanted → Sided wanted
  unfolding TwoSided sides
  sided TopTag t = absurd t
  sided AndTag t =
      record {
        there = λ e. let s = and_shape bytes 0 f m e in (s.left, s.right, and_parts q s.is, s.parts);
        missing = λ n. no_and q (not_and bytes 0 f m n);
      }
  sided ImpliesTag t =
      record {
        there = λ e. let s = implies_shape bytes 0 f m e in (s.left, s.right, implies_parts q s.is, s.parts);
        missing = λ n. no_implies q (not_implies bytes 0 f m n);
      }
  sided AllNamesTag t = absurd t
  sided AllTimesTag t = absurd t
  sided SaysTag t = absurd t
  sided AtTag t = absurd t
  sided AtomTag t = absurd t
  sided FactTag t = absurd t
  sided OrderTag t = absurd t
  sided OrTag t =
      record {
        there = λ e. let s = or_shape bytes 0 f m e in (s.left, s.right, or_parts q s.is, s.parts);
        missing = λ n. no_or q (not_or bytes 0 f m n);
      }
  sided FalsityTag t = absurd t

  -- Another tag than the one wanted.
  pub sides_missing : (wanted : FormulaTag) {l r : Ledger} {So : Formula × Formula → Type 0} → TwoSided wanted
      → (tag_of bytes f.at ≡ Some wanted → ⊥) → r ≡ misfitted l q → Takes (sides wanted q F) q l r So
  sides_missing wanted t n e = unfit ((sided wanted t).missing n) e

-- The first side ends somewhere.
pub first_ends : {bytes : List ℕ} (j : Judgement) {F : Formula} (m : Means bytes 0 j.formula F) (q : ℕ) (wanted : FormulaTag)
    {at : ℕ} → TwoSided wanted → tag_of bytes j.formula.at ≡ Some wanted → After bytes j.formula.at at → EndsAt bytes at None → ⊥
first_ends {bytes} j m q wanted {at} two tag next ends =
    let (A, B, d, parts) = (sided m q wanted two).there tag in
    let first = parts.first.means in
    let n : at ≡ j.formula.at + 1 = next (inside bytes 0 j.formula m) in
    none-some first.end (ends first.level first.sorts first.tree first.end first.low (rw n first.reads))

-- The tag wanted: the first side after it, the second where the first ends.
pub sides_there : {bytes : List ℕ} (j : Judgement) {F : Formula} (m : Means bytes 0 j.formula F) (q : ℕ) (wanted : FormulaTag)
    {l : Ledger} {at end : ℕ} → TwoSided wanted → tag_of bytes j.formula.at ≡ Some wanted
    → After bytes j.formula.at at → EndsAt bytes at (Some end)
    → Takes (sides wanted q F) q l l (λ x. On bytes (part_of j at) x.0 j.from j.to × On bytes (part_of j end) x.1 j.from j.to)
sides_there {bytes} j m q wanted {l} {at} {end} two tag next ends =
    let (A, B, d, parts) = (sided m q wanted two).there tag in
    let first = parts.first.means in
    let n : at ≡ j.formula.at + 1 = next (inside bytes 0 j.formula m) in
    let k : end ≡ first.end = same_Some end first.end (ends first.level first.sorts first.tree first.end first.low (rw n first.reads)) in
    takes (A, B) d refl (part_on j refl n first, part_on j refl k parts.second.means)
