-- A buffer with room for the longest text, and what stands in its front once a text is rewritten.
use Prim.Native.Nat.{ℕ, ◌≤◌}
use mathlib.Core.Path.{◌≡◌}
use mathlib.Core.List.{List}
use native.Mathlib.Omega.{arith}
use lib.ListN.{length, take, replicate, length-replicate}
use Rattle.text.specs.Buffers.{most_text}
use Rattle.from_c.specs.Packing.{number_in, length_in}
use Rattle.demands.specs.Gives.{OfficeRewriteGives}
use Rattle.demands.proofs.InNumbers.{what_reads_is_rewritten}

-- A buffer of zeros, with room for the longest text.
abbrev pub blank : List ℕ
blank = replicate most_text 0

pub room : most_text ≤ length blank
room = omega (arith, length-replicate {A = ℕ} most_text 0)

-- What is rewritten with 0 stands in front of the buffer as it was.
pub stands_in_front : (text : List ℕ) (number : ℕ) (after : List ℕ) → OfficeRewriteGives text blank number after → number_in number ≡ 0
    → (count : ℕ) → count ≡ length_in number → take count after ≡ text
stands_in_front text number after gives zero count is = rw is (what_reads_is_rewritten text blank number after gives zero)
