-- What a caller needs of strengths as numbers: those of no pairs, and those that were found.
use Prim.Native.Nat.{ℕ, ◌≤◌}
use mathlib.Core.Path.{◌≡◌}
use mathlib.Core.List.{List, []}
use mathlib.Core.Logic.{inl}
use native.Mathlib.Omega.{arith}
use lib.ListN.{length, replicate}
use Rattle.bl.specs.Strength.{pairs_of, most_pairs}
use Rattle.bl.specs.Deciding.{alone_is}
use Rattle.strength.specs.InNumbers.{strength_numbers, StrengthsOf, FindsStrengths}

-- Numbers that are not as many as strengths take mark nobody above another: they are the strengths of no pairs.
pub unlike_strengths : (numbers : List ℕ) → (length numbers ≡ strength_numbers → ⊥) → StrengthsOf numbers []
unlike_strengths numbers n =
    record { ordered = λ e. absurd (n e); told = λ k j h. inl (alone_is h); only = λ k j m. absurd (n m.size) }

pub no_strengths : StrengthsOf [] []
no_strengths = unlike_strengths [] (λ e. omega arith)

-- Zeros were made the strengths that the pairs give.
pub found_strengths : (pairs zeros numbers : List ℕ) → FindsStrengths pairs zeros numbers
    → length pairs ≤ most_pairs → zeros ≡ replicate strength_numbers 0 → StrengthsOf numbers (pairs_of pairs)
unfolding FindsStrengths
found_strengths pairs zeros numbers h = h
