-- The words so far are those of the rows so far.
use Prim.Native.Nat.{◌*◌}
use mathlib.Core.Path.{◌≡◌}
use lib.ListN.{length, take}
use Rattle.strength.specs.InNumbers.{mark_words, words}
use Rattle.strength.proofs.marks.put_rows.Given as goal

abbrev pub invariant-loop-place : goal.invariant-loop-place
invariant-loop-place l = (length l.numbers ≡ mark_words) × (take (l.place * 2) l.numbers ≡ words (take l.place l.rows))
