-- Presses, computed: whose claim or certificate is used in a view by the lent pairs, at which place one is refused and before
-- what that is asked, and where 21 stands among the answers.
use Prim.Native.Nat.{ℕ, ◌+◌, ◌*◌}
use mathlib.Core.Path.{refl}
use mathlib.Core.List.{List, [], ◌∷◌}
use lib.ListN.{replicate}
use Rattle.procap.specs.Lists.{All}
use Rattle.procap.specs.Times.{earliest, latest}
use Rattle.procap.specs.Procaps.{procap_of, empty_procap}
use Rattle.procap.specs.declared.time.Time.TheVariants.{Moment, MinusInfinity, PlusInfinity, Ctime}
use Rattle.procap.specs.declared.procap.Procap.{Procap}
use Rattle.bl.specs.declared.Certificate.{Certificate}
use Rattle.bl.proofs.CaseP.{request_P, computes}
use Rattle.bl.proofs.Pressed.{by_administrator, Press, ComesOutWith, DirectPress, DirectComesOutWith}

-- The pair that puts k above j, as a number.
abbrev above : ℕ → ℕ → ℕ
above k j = k * 65536 + j

-- What an estate writes: 1 is the administrator, 5 its owner.
abbrev estate_buffer : List ℕ
estate_buffer =
    -- 100(2, 7, 9)
    0x17 ∷ 0x00 ∷ 0x64 ∷ 0x03 ∷ 0x00 ∷ 0x00 ∷ 0x02 ∷ 0x00 ∷ 0x00 ∷ 0x07 ∷ 0x00 ∷ 0x00 ∷ 0x09 ∷
    -- 5 says 100(2, 7, 9)
    0x15 ∷ 0x00 ∷ 0x00 ∷ 0x05 ∷ 0x17 ∷ 0x00 ∷ 0x64 ∷ 0x03 ∷ 0x00 ∷ 0x00 ∷ 0x02 ∷ 0x00 ∷ 0x00 ∷ 0x07 ∷ 0x00 ∷ 0x00 ∷ 0x09 ∷
    -- (1 says 100(2, 7, 9)) implies 100(2, 7, 9)
    0x12 ∷ 0x15 ∷ 0x00 ∷ 0x00 ∷ 0x01 ∷ 0x17 ∷ 0x00 ∷ 0x64 ∷ 0x03 ∷ 0x00 ∷ 0x00 ∷ 0x02 ∷ 0x00 ∷ 0x00 ∷ 0x07 ∷ 0x00 ∷ 0x00 ∷ 0x09 ∷ 0x17 ∷ 0x00 ∷ 0x64 ∷ 0x03 ∷ 0x00 ∷ 0x00 ∷ 0x02 ∷ 0x00 ∷ 0x00 ∷ 0x07 ∷ 0x00 ∷ 0x00 ∷ 0x09 ∷
    []

-- By the owner, and by the administrator.
abbrev estate : List Certificate
estate =
    record { principal = 5; from = MinusInfinity; to = PlusInfinity; start = 0; length = 13 } ∷
    by_administrator MinusInfinity PlusInfinity 0 13 ∷
    by_administrator MinusInfinity PlusInfinity 13 17 ∷
    by_administrator MinusInfinity PlusInfinity 30 31 ∷
    record { principal = 5; from = Moment 2000; to = Moment 1000; start = 0; length = 13 } ∷
    []

-- ── Verify ──

-- Pairs with a proof, and what verify gives back for it.
record PairedPress : Type 0 where
  pairs : List ℕ
  press : Press

abbrev PairedComesOut : PairedPress → Type 0
PairedComesOut x = ComesOutWith x.pairs estate_buffer x.press

-- What is issued, and what is refused, for the estate's certificates.
abbrev for_all_time : Procap
for_all_time = procap_of request_P earliest latest []

abbrev issued : List ℕ → List ℕ → PairedPress
issued pairs proof = record { pairs = pairs; press = record { records = estate; proof = proof; number = 0; place = 0; procap = for_all_time } }

abbrev refused_with : ℕ → ℕ → List ℕ → List ℕ → PairedPress
refused_with number place pairs proof = record { pairs = pairs; press = record { records = estate; proof = proof; number = number; place = place; procap = empty_procap } }

-- In the view of 1: the owner's certificate, the administrator's, and what 1 certifies that the owner says, as a claim of the owner.
abbrev by_owner : List ℕ
by_owner = 0x2a ∷ 0x21 ∷ 0x00 ∷ []

abbrev by_own_word : List ℕ
by_own_word = 0x2a ∷ 0x21 ∷ 0x01 ∷ []

abbrev by_claim : List ℕ
by_claim = 0x2a ∷ 0x2b ∷ 0x21 ∷ 0x02 ∷ 0x20 ∷ 0x00 ∷ []

abbrev presses : List PairedPress
presses =
    -- With no pair the owner is no administrator; with one it is as strong as that.
    refused_with 3 1 [] by_owner ∷ issued (above 5 1 ∷ []) by_owner
    ∷
    -- It is the same with a claim, at its own step 20.
    refused_with 3 4 [] by_claim ∷ issued (above 5 1 ∷ []) by_claim
    ∷
    -- A pair leads one way only.
    refused_with 3 1 (above 1 5 ∷ []) by_owner
    ∷
    -- A chain, in either order, and one that is broken.
    issued (above 5 6 ∷ above 6 1 ∷ []) by_owner ∷ issued (above 6 1 ∷ above 5 6 ∷ []) by_owner ∷ refused_with 3 1 (above 5 6 ∷ above 7 1 ∷ []) by_owner
    ∷
    -- A longer chain, in the order that finds one link at a time.
    issued (above 8 1 ∷ above 7 8 ∷ above 6 7 ∷ above 5 6 ∷ []) by_owner
    ∷
    -- A diamond, a repeat, and rings on the way and aside.
    issued (above 5 6 ∷ above 5 7 ∷ above 6 1 ∷ above 7 1 ∷ []) by_owner
    ∷
    issued (above 5 1 ∷ above 5 1 ∷ []) by_owner ∷ issued (above 5 6 ∷ above 6 5 ∷ above 6 1 ∷ []) by_owner ∷ refused_with 3 1 (above 5 6 ∷ above 6 5 ∷ []) by_owner
    ∷
    -- A pair of one principal with itself gives nothing, and takes nothing.
    refused_with 3 1 (above 5 5 ∷ above 1 1 ∷ []) by_owner ∷ issued (above 1 1 ∷ []) by_own_word
    ∷
    -- Everybody is as strong as himself, whatever the pairs are.
    issued [] by_own_word ∷ issued (above 5 6 ∷ []) by_own_word
    ∷
    -- Strength comes before the two comparisons of the intervals: 3, and then 5 for an interval that is empty.
    refused_with 3 1 [] (0x2a ∷ 0x21 ∷ 0x04 ∷ []) ∷ refused_with 5 0 (above 5 1 ∷ []) (0x2a ∷ 0x21 ∷ 0x04 ∷ [])
    ∷
    -- What the owner says is not what the administrator says: formulas are compared by names.
    refused_with 3 4 (above 5 1 ∷ []) (0x2a ∷ 0x26 ∷ 0x21 ∷ 0x03 ∷ 0x21 ∷ 0x02 ∷ 0x04 ∷ 0x04 ∷ [])
    ∷
    -- Over 128 pairs, also the same one: before the proof, which is empty here.
    refused_with 21 0 (replicate 129 (above 5 1)) by_owner ∷ refused_with 21 0 (replicate 129 (above 5 1)) [] ∷ refused_with 2 0 (replicate 128 (above 5 1)) []
    ∷
    -- A malformed certificate comes before them.
    record { pairs = replicate 129 (above 5 1); press = record { records = by_administrator Ctime PlusInfinity 0 13 ∷ []; proof = []; number = 1; place = 0; procap = empty_procap } }
    ∷
    []

pub pair_presses_come_out : All PairedComesOut presses
unfolding computes
pair_presses_come_out =
    ((refl, refl, refl), ((refl, refl, refl), ((refl, refl, refl), ((refl, refl, refl), ((refl, refl, refl), ((refl, refl, refl), ((refl, refl, refl), ((refl, refl, refl), ((refl, refl, refl), ((refl, refl, refl), ((refl, refl, refl), ((refl, refl, refl), ((refl, refl, refl), ((refl, refl, refl), ((refl, refl, refl), ((refl, refl, refl), ((refl, refl, refl), ((refl, refl, refl), ((refl, refl, refl), ((refl, refl, refl), ((refl, refl, refl), ((refl, refl, refl), ((refl, refl, refl), ((refl, refl, refl), tt))))))))))))))))))))))))

-- ── The direct check ──

abbrev direct_presses : List DirectPress
direct_presses =
    -- In the view of 1, at any moment.
    record { moment = 1500; state = []; number = 0; place = 0 }
    ∷
    record { moment = 1_099_511_627_776; state = []; number = 11; place = 0 }
    ∷
    []

pub direct_pair_presses_come_out : All (DirectComesOutWith (above 5 6 ∷ above 6 1 ∷ []) estate estate_buffer by_owner) direct_presses
unfolding computes
direct_pair_presses_come_out = ((refl, refl), ((refl, refl), tt))

-- Too many pairs come before a malformed proof, a moment above the latest and a malformed state.
abbrev too_many_presses : List DirectPress
too_many_presses = record { moment = 1_099_511_627_776; state = 0x00 ∷ []; number = 21; place = 0 } ∷ []

pub too_many_pairs_come_out : All (DirectComesOutWith (replicate 129 (above 5 1)) estate estate_buffer []) too_many_presses
unfolding computes
too_many_pairs_come_out = ((refl, refl), tt)
