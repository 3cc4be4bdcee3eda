-- What a house lends for a proof to stand on.
use Rattle.std.specs.Prelude.{ℕ, List, Ok}
use Rattle.procap.specs.Outcome.{Outcome, go_on}
use Rattle.bl.specs.declared.Certificate.{Certificate}
use Rattle.bl.specs.Certificates.{Statement, statements}
use Rattle.bl.specs.Strength.{Pair, pairs_in}

-- A house's policy: what its certificates state, and who stands above whom.
pub record Policy : Type 0 where
  pub statements : List Statement
  pub pairs : List Pair

-- [Numbers 1, 21; D82] The certificates are read first, then the pairs.
unfoldable pub policy_in : List Certificate → List ℕ → List ℕ → Outcome Policy
policy_in records buffer numbers =
    go_on (statements buffer records) λ cs.
    go_on (pairs_in numbers) λ ps.
    Ok (record { statements = cs; pairs = ps })
