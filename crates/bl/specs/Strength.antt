-- Who stands above whom: the lent pairs of principals, and the strength that they give.
use Rattle.std.specs.Prelude.{ℕ, ◌/◌, ◌%◌, List, map, length, Ok}
use Rattle.std.proofs.Math.Decide.{dec_le}
use Rattle.procap.specs.Lists.{In}
use Rattle.procap.specs.Outcome.{Outcome, go_on, require}
use Rattle.procap.specs.declared.answer.Answer.TheVariants.{TooManyPairs}

-- [Two questions, pairs] A pair: the stronger principal stands above the weaker.
pub record Pair : Type 0 where
  pub stronger : ℕ
  pub weaker : ℕ

-- [Two questions, pairs] How many pairs are taken.
abbrev pub most_pairs : ℕ
most_pairs = 128

-- [D81] The pair that a lent number is: the stronger one in its upper 16 bits, the weaker one in its lower.
abbrev pub pair_of : ℕ → Pair
pair_of n = record { stronger = n / 65536; weaker = n % 65536 }

-- The pairs that the lent numbers are.
abbrev pub pairs_of : List ℕ → List Pair
pairs_of numbers = map pair_of numbers

-- [Numbers 21; D82] The pairs, unless they are too many, repeats counted.
unfoldable pub pairs_in : List ℕ → Outcome (List Pair)
pairs_in numbers =
    go_on (require TooManyPairs (dec_le (length numbers) most_pairs)) λ _.
    Ok (pairs_of numbers)

-- [Rules, strength] At least as strong: a principal as itself, and one that a pair puts above somebody as whoever that one is as strong as.
pub data AsStrong (ps : List Pair) : ℕ → ℕ → Type 0 where
  as_itself : {k : ℕ} → AsStrong ps k k
  as_above : {i j k : ℕ} → In (record { stronger = k; weaker = i }) ps → AsStrong ps i j → AsStrong ps k j
