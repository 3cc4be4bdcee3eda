-- A walk that goes by the strengths that were found goes by the pairs that were read: they gave those strengths, also where there is none.
use Prim.Native.Nat.{ℕ}
use mathlib.Core.Path.{◌≡◌}
use mathlib.Core.List.{List, [], ◌∷◌}
use mathlib.Core.Logic.{inl}
use lib.ListN.{length}
use native.Mathlib.Omega.{arith}
use Rattle.std.specs.Prelude.{Ok, None}
use Rattle.bl.specs.Deciding.{alone_is}
use Rattle.bl.proofs.Called.{pairs_from}
use Rattle.bl.specs.Strength.{Pair, pairs_in}
use Rattle.strength.specs.declared.table.Strengths.{Strengths}
use Rattle.strength.specs.Strengths.{Unmarked, StrengthsOf, StrengthsLent, LentStrengthsOf}
use Rattle.strength.specs.Finding.{FindsStrengths}
use Rattle.ledger.specs.declared.Ledger.{Ledger}
use Rattle.walk.specs.Walking.{PolicyLent}
use Rattle.verifier.specs.declared.verify.Asked.{Asked}
use Rattle.verifier.specs.Verifying.{PolicyRead, Walked}
use Rattle.procap.specs.declared.fact.Fact.{Fact}

-- No pairs give no strengths.
pub none_give : (pairs : List ℕ) (ps : List Pair) → length pairs ≡ 0 → pairs_in pairs ≡ Ok ps → LentStrengthsOf None ps
none_give [] ps none e = pairs_from [] ps e λ _ is. rw is (record { told = λ k j h. inl (alone_is h); only = λ k j m. absurd m })
none_give (n ∷ ns) ps none e = absurd (omega arith)

-- Pairs give the strengths that were found.
pub found_give : (pairs : List ℕ) (before strengths : Strengths) (ps : List Pair) → Unmarked before → FindsStrengths pairs before strengths → pairs_in pairs ≡ Ok ps → StrengthsOf strengths ps
found_give pairs before strengths ps none found e = pairs_from pairs ps e λ few is. rw is (found few none)

-- So the walk by these is the walk by those.
pub by_strengths : (asked : Asked) (buffer pairs rows : List ℕ) (strengths : StrengthsLent) (proof state ends : List ℕ) (list : List Fact) {l : Ledger} {list' : List Fact}
    → ((ps : List Pair) → pairs_in pairs ≡ Ok ps → LentStrengthsOf strengths ps)
    → Walked asked (PolicyLent buffer rows strengths) proof state ends list l list'
    → Walked asked (PolicyRead buffer rows pairs) proof state ends list l list'
by_strengths asked buffer pairs rows strengths proof state ends list give walks π N room reads =
    let read = reads.policy in
    walks π N room (record {
      policy = record { certified = read.certified; strong = give π.pairs read.paired };
      proof_reads = reads.proof_reads;
      told = reads.told;
    })
