-- What falls at each call of the walk: the levels left, and at the same level the bytes left. A level counts as much as all bytes of the proof and one more.
use Prim.Native.Nat.{ℕ, suc, ◌+◌, ◌-◌, ◌*◌, ◌≤◌, ◌<◌}
use mathlib.Core.Path.{◌≡◌}
use mathlib.Core.List.{List}
use native.Mathlib.Omega.{arith}
use native.Mathlib.Decide.{dec_lt}
use lib.ListN.{length, get_or, get_or-eq_default}
use Rattle.bl.specs.declared.CheckTag.{CheckTag}
use Rattle.std.proofs.lemmas.Option.{none-some}
use Rattle.std.specs.Prelude.{Some}
use Rattle.bl.specs.Tags.{check_tag}

-- What is left at a place of a proof of so many bytes, with so many levels.
abbrev pub left_over : ℕ → ℕ → ℕ → ℕ
left_over levels all at = levels * suc all + (all - at)

-- A tag stands inside of the proof.
pub tag_inside : (proof : List ℕ) (at : ℕ) (tag : CheckTag) → check_tag (get_or proof at 0) ≡ Some tag → at < length proof
tag_inside proof at tag e = by (dec_lt at (length proof))
  where
    by : Dec (at < length proof) → at < length proof
    by (yes inside) = inside
    by (no outside) = let past : length proof ≤ at = omega arith in absurd (none-some tag (rw (get_or-eq_default proof 0 past) at e))
