-- What is read where a formula is: first its tag, which stands inside of the bytes, and then what the reader by that tag finds.
use Prim.Native.Nat.{ℕ, zero, suc, ◌+◌, ◌<◌}
use mathlib.Core.Path.{◌≡◌, refl}
use mathlib.Core.List.{List}
use Rattle.std.proofs.lemmas.Option.{none-some}
use Rattle.std.specs.Prelude.{None, Option, Some}
use lib.ListN.{length}
use Rattle.bl.specs.declared.Sort.{Sort}
use Rattle.bl.specs.declared.FormulaTag.{FormulaTag}
use Rattle.bl.specs.Trees.{Formula}
use Rattle.bl.specs.Formulas.{argument, place, formula_by, formula}
use Rattle.procap.specs.Bytes.{then, present}
use Rattle.formula.specs.Meaning.{tag_of}
use Rattle.procap.proofs.Readers.{IfRead, read, then_read, ensure_read}
use Rattle.procap.proofs.ReadApart.{as_read, after_byte}

module _ (bytes : List ℕ) (sorts : List Sort) (start : ℕ) where
  -- A place of the sort wanted there is an argument.
  pub place_read : (s : Sort) → IfRead (λ x e. argument bytes sorts start ≡ Some (x, e)) (place bytes s sorts start)
  unfolding place
  place_read s = then_read (as_read (argument bytes sorts start)) λ x e r. ensure_read _ _ _ λ _. read r

  -- A formula of so many levels, read by its tag, with its parts read one level lower.
  pub record ReadByTag (levels : ℕ) (r : Formula × ℕ) : Type 0 where
    pub inside : start < length bytes
    pub below : ℕ
    pub lower : levels ≡ suc below
    pub tag : FormulaTag
    pub tagged : tag_of bytes start ≡ Some tag
    pub reads : formula_by bytes (λ around. formula bytes below around) sorts tag (start + 1) ≡ Some r

  pub read_by_tag : (levels : ℕ) (r : Formula × ℕ) → formula bytes levels sorts start ≡ Some r → ReadByTag levels r
  unfolding formula then present
  read_by_tag zero r h = absurd (none-some r h)
  read_by_tag (suc n) r h =
      let (inside, reads) = after_byte bytes start _ r h in by inside (tag_of bytes start) refl reads
    where
      by : start < length bytes → (o : Option FormulaTag) → tag_of bytes start ≡ o
          → then (present o (start + 1)) (formula_by bytes (λ around. formula bytes n around) sorts) ≡ Some r → ReadByTag (suc n) r
      by inside None e h = absurd (none-some r h)
      by inside (Some tag) e h = record { inside = inside; below = n; lower = refl; tag = tag; tagged = e; reads = h }
