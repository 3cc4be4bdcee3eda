-- Presses, computed: a claim or a certificate is used only where the view's interval lies in its own, and at which place and before what that is asked.
use Prim.Native.Nat.{ℕ}
use mathlib.Core.Path.{refl}
use mathlib.Core.List.{List, [], ◌∷◌}
use Rattle.procap.specs.Lists.{All}
use Rattle.procap.specs.Times.{earliest, latest}
use Rattle.procap.specs.Procaps.{procap_of, empty_procap}
use Rattle.procap.specs.declared.time.Time.TheVariants.{Moment, MinusInfinity, PlusInfinity}
use Rattle.bl.specs.declared.Certificate.{Certificate}
use Rattle.bl.proofs.CaseP.{request_P, computes}
use Rattle.bl.proofs.Pressed.{by_administrator, Press, ComesOut, DirectPress, DirectComesOut}

-- What a lab writes: March is from 1000 to 2000, June from 5000 to 6000.
abbrev lab_buffer : List ℕ
lab_buffer =
    -- 300, that 2 is trained
    0x17 ∷ 0x01 ∷ 0x2c ∷ 0x00 ∷
    -- (300 at [1000,2000]) implies 100(2, 7, 9)
    0x12 ∷ 0x16 ∷ 0x01 ∷ 0x00 ∷ 0x00 ∷ 0x00 ∷ 0x03 ∷ 0xe8 ∷ 0x01 ∷ 0x00 ∷ 0x00 ∷ 0x00 ∷ 0x07 ∷ 0xd0 ∷ 0x17 ∷ 0x01 ∷ 0x2c ∷ 0x00 ∷ 0x17 ∷ 0x00 ∷ 0x64 ∷ 0x03 ∷ 0x00 ∷ 0x00 ∷ 0x02 ∷ 0x00 ∷ 0x00 ∷ 0x07 ∷ 0x00 ∷ 0x00 ∷ 0x09 ∷
    -- (1 says (300 at [1000,2000])) implies 100(2, 7, 9)
    0x12 ∷ 0x15 ∷ 0x00 ∷ 0x00 ∷ 0x01 ∷ 0x16 ∷ 0x01 ∷ 0x00 ∷ 0x00 ∷ 0x00 ∷ 0x03 ∷ 0xe8 ∷ 0x01 ∷ 0x00 ∷ 0x00 ∷ 0x00 ∷ 0x07 ∷ 0xd0 ∷ 0x17 ∷ 0x01 ∷ 0x2c ∷ 0x00 ∷ 0x17 ∷ 0x00 ∷ 0x64 ∷ 0x03 ∷ 0x00 ∷ 0x00 ∷ 0x02 ∷ 0x00 ∷ 0x00 ∷ 0x07 ∷ 0x00 ∷ 0x00 ∷ 0x09 ∷
    -- 1 says 300
    0x15 ∷ 0x00 ∷ 0x00 ∷ 0x01 ∷ 0x17 ∷ 0x01 ∷ 0x2c ∷ 0x00 ∷
    -- 300 at [1000,2000]
    0x16 ∷ 0x01 ∷ 0x00 ∷ 0x00 ∷ 0x00 ∷ 0x03 ∷ 0xe8 ∷ 0x01 ∷ 0x00 ∷ 0x00 ∷ 0x00 ∷ 0x07 ∷ 0xd0 ∷ 0x17 ∷ 0x01 ∷ 0x2c ∷ 0x00 ∷
    []

abbrev lab : List Certificate
lab =
    by_administrator (Moment 1000) (Moment 2000) 0 4 ∷
    by_administrator MinusInfinity PlusInfinity 4 31 ∷
    by_administrator (Moment 5000) (Moment 6000) 4 31 ∷
    by_administrator MinusInfinity PlusInfinity 35 35 ∷
    by_administrator (Moment 1000) (Moment 2000) 70 8 ∷
    record { principal = 5; from = Moment 1000; to = Moment 2000; start = 0; length = 4 } ∷
    by_administrator MinusInfinity PlusInfinity 78 17 ∷
    []

-- ── Verify ──

abbrev presses : List Press
presses =
    -- In June, by a rule of June, the certificate of March shows 300 no more: no moment is left.
    record { records = lab; proof = 0x2a ∷ 0x26 ∷ 0x21 ∷ 0x02 ∷ 0x28 ∷ 0x21 ∷ 0x00 ∷ 0x04 ∷ 0x04 ∷ []; number = 5; place = 0; procap = empty_procap }
    ∷
    -- By a rule for all time it shows it in March: both comparisons are with ctime, and narrow the procap.
    record { records = lab; proof = 0x2a ∷ 0x26 ∷ 0x21 ∷ 0x01 ∷ 0x28 ∷ 0x21 ∷ 0x00 ∷ 0x04 ∷ 0x04 ∷ []; number = 0; place = 0; procap = procap_of request_P 1000 2000 [] }
    ∷
    -- An inner says-in on [1200,1800] sets the view to that; the 28 inside of it leaves it so.
    record { records = lab; proof = 0x2a ∷ 0x26 ∷ 0x21 ∷ 0x03 ∷ 0x2a ∷ 0x28 ∷ 0x21 ∷ 0x00 ∷ 0x01 ∷ 0x00 ∷ 0x00 ∷ 0x00 ∷ 0x04 ∷ 0xb0 ∷ 0x01 ∷ 0x00 ∷ 0x00 ∷ 0x00 ∷ 0x07 ∷ 0x08 ∷ []; number = 0; place = 0; procap = procap_of request_P 1200 1800 [] }
    ∷
    -- On [500,1500] the view starts before the certificate does, though the goal of the 28 does not.
    record { records = lab; proof = 0x2a ∷ 0x26 ∷ 0x21 ∷ 0x03 ∷ 0x2a ∷ 0x28 ∷ 0x21 ∷ 0x00 ∷ 0x01 ∷ 0x00 ∷ 0x00 ∷ 0x00 ∷ 0x01 ∷ 0xf4 ∷ 0x01 ∷ 0x00 ∷ 0x00 ∷ 0x00 ∷ 0x05 ∷ 0xdc ∷ []; number = 4; place = 6; procap = empty_procap }
    ∷
    -- On [1500,2500] only the view's end is too late.
    record { records = lab; proof = 0x2a ∷ 0x26 ∷ 0x21 ∷ 0x03 ∷ 0x2a ∷ 0x28 ∷ 0x21 ∷ 0x00 ∷ 0x01 ∷ 0x00 ∷ 0x00 ∷ 0x00 ∷ 0x05 ∷ 0xdc ∷ 0x01 ∷ 0x00 ∷ 0x00 ∷ 0x00 ∷ 0x09 ∷ 0xc4 ∷ []; number = 4; place = 6; procap = empty_procap }
    ∷
    -- The principal comes before the two comparisons: 3, and not 4.
    record { records = lab; proof = 0x2a ∷ 0x26 ∷ 0x21 ∷ 0x03 ∷ 0x2a ∷ 0x28 ∷ 0x21 ∷ 0x05 ∷ 0x01 ∷ 0x00 ∷ 0x00 ∷ 0x00 ∷ 0x05 ∷ 0xdc ∷ 0x01 ∷ 0x00 ∷ 0x00 ∷ 0x00 ∷ 0x09 ∷ 0xc4 ∷ []; number = 3; place = 6; procap = empty_procap }
    ∷
    -- The two comparisons come before the formula is compared with the goal's: 4, and not 3.
    record { records = lab; proof = 0x2a ∷ 0x26 ∷ 0x21 ∷ 0x03 ∷ 0x2a ∷ 0x28 ∷ 0x21 ∷ 0x04 ∷ 0x01 ∷ 0x00 ∷ 0x00 ∷ 0x00 ∷ 0x05 ∷ 0xdc ∷ 0x01 ∷ 0x00 ∷ 0x00 ∷ 0x00 ∷ 0x09 ∷ 0xc4 ∷ []; number = 4; place = 6; procap = empty_procap }
    ∷
    -- With no view there is nothing to compare with.
    record { records = lab; proof = 0x21 ∷ 0x00 ∷ []; number = 3; place = 0; procap = empty_procap }
    ∷
    -- A claim is used where the view lies in its interval,
    record { records = lab; proof = 0x2a ∷ 0x2b ∷ 0x21 ∷ 0x04 ∷ 0x26 ∷ 0x21 ∷ 0x03 ∷ 0x2a ∷ 0x28 ∷ 0x20 ∷ 0x00 ∷ 0x01 ∷ 0x00 ∷ 0x00 ∷ 0x00 ∷ 0x04 ∷ 0xb0 ∷ 0x01 ∷ 0x00 ∷ 0x00 ∷ 0x00 ∷ 0x07 ∷ 0x08 ∷ []; number = 0; place = 0; procap = procap_of request_P 1200 1800 [] }
    ∷
    -- not where the view starts too early,
    record { records = lab; proof = 0x2a ∷ 0x2b ∷ 0x21 ∷ 0x04 ∷ 0x26 ∷ 0x21 ∷ 0x03 ∷ 0x2a ∷ 0x28 ∷ 0x20 ∷ 0x00 ∷ 0x01 ∷ 0x00 ∷ 0x00 ∷ 0x00 ∷ 0x01 ∷ 0xf4 ∷ 0x01 ∷ 0x00 ∷ 0x00 ∷ 0x00 ∷ 0x05 ∷ 0xdc ∷ []; number = 4; place = 9; procap = empty_procap }
    ∷
    -- and not where it ends too late.
    record { records = lab; proof = 0x2a ∷ 0x2b ∷ 0x21 ∷ 0x04 ∷ 0x26 ∷ 0x21 ∷ 0x03 ∷ 0x2a ∷ 0x28 ∷ 0x20 ∷ 0x00 ∷ 0x01 ∷ 0x00 ∷ 0x00 ∷ 0x00 ∷ 0x05 ∷ 0xdc ∷ 0x01 ∷ 0x00 ∷ 0x00 ∷ 0x00 ∷ 0x09 ∷ 0xc4 ∷ []; number = 4; place = 9; procap = empty_procap }
    ∷
    -- A plain assumption on [1000,2000] is used in any view.
    record { records = lab; proof = 0x2a ∷ 0x29 ∷ 0x21 ∷ 0x06 ∷ 0x26 ∷ 0x21 ∷ 0x01 ∷ 0x28 ∷ 0x20 ∷ 0x00 ∷ 0x04 ∷ 0x04 ∷ []; number = 0; place = 0; procap = procap_of request_P earliest latest [] }
    ∷
    []

pub view_presses_come_out : All (ComesOut lab_buffer) presses
unfolding computes
view_presses_come_out =
    ((refl, refl, refl), ((refl, refl, refl), ((refl, refl, refl), ((refl, refl, refl), ((refl, refl, refl), ((refl, refl, refl), ((refl, refl, refl), ((refl, refl, refl), ((refl, refl, refl), ((refl, refl, refl), ((refl, refl, refl), ((refl, refl, refl), tt))))))))))))

-- ── The direct check ──

-- The rule for all time, and the certificate of March.
abbrev in_march : List ℕ
in_march = 0x2a ∷ 0x26 ∷ 0x21 ∷ 0x01 ∷ 0x28 ∷ 0x21 ∷ 0x00 ∷ 0x04 ∷ 0x04 ∷ []

abbrev direct_presses : List DirectPress
direct_presses =
    -- From the first moment of March to the last.
    record { moment = 1000; state = []; number = 0; place = 0 }
    ∷
    record { moment = 2000; state = []; number = 0; place = 0 }
    ∷
    -- Before it and after it, at the step 21 of the certificate of March.
    record { moment = 999; state = []; number = 4; place = 5 }
    ∷
    record { moment = 2001; state = []; number = 4; place = 5 }
    ∷
    []

pub direct_view_presses_come_out : All (DirectComesOut lab lab_buffer in_march) direct_presses
unfolding computes
direct_view_presses_come_out = ((refl, refl), ((refl, refl), ((refl, refl), ((refl, refl), tt))))
