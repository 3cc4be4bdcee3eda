-- Presses, computed: either side of an "or" shows it, both of its cases are gone through in their order, and falsity shows anything; with each place.
use Prim.Native.Nat.{ℕ}
use mathlib.Core.Path.{refl}
use mathlib.Core.List.{List, [], ◌∷◌, ◌++◌}
use Rattle.procap.specs.Lists.{All}
use Rattle.procap.specs.Times.{earliest, latest}
use Rattle.procap.specs.Procaps.{procap_of, empty_procap}
use Rattle.procap.specs.declared.time.Time.TheVariants.{Moment, MinusInfinity, PlusInfinity}
use Rattle.procap.specs.declared.fact.Term.TheVariants.{Name}
use Rattle.bl.specs.declared.Certificate.{Certificate}
use Rattle.bl.proofs.CaseP.{request_P, computes}
use Rattle.bl.proofs.Pressed.{by_administrator, Press, ComesOut, DirectPress, DirectComesOut}

-- What a house writes about a shift: 300 is that its head blender is on duty, 301 that its day blender is.
abbrev shift_buffer : List ℕ
shift_buffer =
    -- 300 or 301
    0x1a ∷ 0x17 ∷ 0x01 ∷ 0x2c ∷ 0x00 ∷ 0x17 ∷ 0x01 ∷ 0x2d ∷ 0x00 ∷
    -- 300 implies 100(2, 7, 9)
    0x12 ∷ 0x17 ∷ 0x01 ∷ 0x2c ∷ 0x00 ∷ 0x17 ∷ 0x00 ∷ 0x64 ∷ 0x03 ∷ 0x00 ∷ 0x00 ∷ 0x02 ∷ 0x00 ∷ 0x00 ∷ 0x07 ∷ 0x00 ∷ 0x00 ∷ 0x09 ∷
    -- 301 implies 100(2, 7, 9)
    0x12 ∷ 0x17 ∷ 0x01 ∷ 0x2d ∷ 0x00 ∷ 0x17 ∷ 0x00 ∷ 0x64 ∷ 0x03 ∷ 0x00 ∷ 0x00 ∷ 0x02 ∷ 0x00 ∷ 0x00 ∷ 0x07 ∷ 0x00 ∷ 0x00 ∷ 0x09 ∷
    -- (300 or 301) implies 100(2, 7, 9)
    0x12 ∷ 0x1a ∷ 0x17 ∷ 0x01 ∷ 0x2c ∷ 0x00 ∷ 0x17 ∷ 0x01 ∷ 0x2d ∷ 0x00 ∷ 0x17 ∷ 0x00 ∷ 0x64 ∷ 0x03 ∷ 0x00 ∷ 0x00 ∷ 0x02 ∷ 0x00 ∷ 0x00 ∷ 0x07 ∷ 0x00 ∷ 0x00 ∷ 0x09 ∷
    -- 300
    0x17 ∷ 0x01 ∷ 0x2c ∷ 0x00 ∷
    -- falsity
    0x1b ∷
    -- top
    0x10 ∷
    -- (300 and fact 200(7)) implies 100(2, 7, 9)
    0x12 ∷ 0x11 ∷ 0x17 ∷ 0x01 ∷ 0x2c ∷ 0x00 ∷ 0x18 ∷ 0x00 ∷ 0xc8 ∷ 0x01 ∷ 0x00 ∷ 0x00 ∷ 0x07 ∷ 0x17 ∷ 0x00 ∷ 0x64 ∷ 0x03 ∷ 0x00 ∷ 0x00 ∷ 0x02 ∷ 0x00 ∷ 0x00 ∷ 0x07 ∷ 0x00 ∷ 0x00 ∷ 0x09 ∷
    -- (301 and fact 202(7)) implies 100(2, 7, 9)
    0x12 ∷ 0x11 ∷ 0x17 ∷ 0x01 ∷ 0x2d ∷ 0x00 ∷ 0x18 ∷ 0x00 ∷ 0xca ∷ 0x01 ∷ 0x00 ∷ 0x00 ∷ 0x07 ∷ 0x17 ∷ 0x00 ∷ 0x64 ∷ 0x03 ∷ 0x00 ∷ 0x00 ∷ 0x02 ∷ 0x00 ∷ 0x00 ∷ 0x07 ∷ 0x00 ∷ 0x00 ∷ 0x09 ∷
    -- falsity at [5000,6000]
    0x16 ∷ 0x01 ∷ 0x00 ∷ 0x00 ∷ 0x00 ∷ 0x13 ∷ 0x88 ∷ 0x01 ∷ 0x00 ∷ 0x00 ∷ 0x00 ∷ 0x17 ∷ 0x70 ∷ 0x1b ∷
    -- falsity implies 100(2, 7, 9)
    0x12 ∷ 0x1b ∷ 0x17 ∷ 0x00 ∷ 0x64 ∷ 0x03 ∷ 0x00 ∷ 0x00 ∷ 0x02 ∷ 0x00 ∷ 0x00 ∷ 0x07 ∷ 0x00 ∷ 0x00 ∷ 0x09 ∷
    -- (1 says 300) implies 100(2, 7, 9)
    0x12 ∷ 0x15 ∷ 0x00 ∷ 0x00 ∷ 0x01 ∷ 0x17 ∷ 0x01 ∷ 0x2c ∷ 0x00 ∷ 0x17 ∷ 0x00 ∷ 0x64 ∷ 0x03 ∷ 0x00 ∷ 0x00 ∷ 0x02 ∷ 0x00 ∷ 0x00 ∷ 0x07 ∷ 0x00 ∷ 0x00 ∷ 0x09 ∷
    -- 301 or 300
    0x1a ∷ 0x17 ∷ 0x01 ∷ 0x2d ∷ 0x00 ∷ 0x17 ∷ 0x01 ∷ 0x2c ∷ 0x00 ∷
    []

abbrev shift : List Certificate
shift =
    by_administrator (Moment 1000) (Moment 2000) 0 9 ∷
    by_administrator MinusInfinity PlusInfinity 9 18 ∷
    by_administrator MinusInfinity PlusInfinity 27 18 ∷
    by_administrator MinusInfinity PlusInfinity 45 23 ∷
    by_administrator (Moment 1000) (Moment 2000) 68 4 ∷
    by_administrator (Moment 1000) (Moment 2000) 72 1 ∷
    by_administrator MinusInfinity PlusInfinity 73 1 ∷
    by_administrator MinusInfinity PlusInfinity 74 26 ∷
    by_administrator MinusInfinity PlusInfinity 100 26 ∷
    by_administrator MinusInfinity PlusInfinity 126 14 ∷
    by_administrator MinusInfinity PlusInfinity 140 15 ∷
    by_administrator MinusInfinity PlusInfinity 155 22 ∷
    by_administrator MinusInfinity PlusInfinity 177 9 ∷
    []

-- ── Verify ──

abbrev presses : List Press
presses =
    -- The left side shows an "or",
    record { records = shift; proof = 0x2a ∷ 0x26 ∷ 0x21 ∷ 0x03 ∷ 0x2e ∷ 0x21 ∷ 0x04 ∷ 0x04 ∷ 0x04 ∷ []; number = 0; place = 0; procap = procap_of request_P 1000 2000 [] }
    ∷
    -- and for the right one something else is wanted.
    record { records = shift; proof = 0x2a ∷ 0x26 ∷ 0x21 ∷ 0x03 ∷ 0x2f ∷ 0x21 ∷ 0x04 ∷ 0x04 ∷ 0x04 ∷ []; number = 3; place = 5; procap = empty_procap }
    ∷
    -- A goal that is no "or" is a misfit of the 2E, before its part, and of the 2F.
    record { records = shift; proof = 0x2a ∷ 0x2e ∷ 0x2f ∷ 0x21 ∷ 0x04 ∷ []; number = 3; place = 1; procap = empty_procap }
    ∷
    record { records = shift; proof = 0x2a ∷ 0x2f ∷ 0x2e ∷ 0x21 ∷ 0x04 ∷ []; number = 3; place = 1; procap = empty_procap }
    ∷
    -- By cases: each side in its turn is the latest assumption.
    record { records = shift; proof = 0x2a ∷ 0x30 ∷ 0x21 ∷ 0x00 ∷ 0x26 ∷ 0x21 ∷ 0x01 ∷ 0x20 ∷ 0x00 ∷ 0x04 ∷ 0x04 ∷ 0x26 ∷ 0x21 ∷ 0x02 ∷ 0x20 ∷ 0x00 ∷ 0x04 ∷ 0x04 ∷ []; number = 0; place = 0; procap = procap_of request_P 1000 2000 [] }
    ∷
    -- In the second branch the left side is not assumed any more.
    record { records = shift; proof = 0x2a ∷ 0x30 ∷ 0x21 ∷ 0x00 ∷ 0x26 ∷ 0x21 ∷ 0x01 ∷ 0x20 ∷ 0x00 ∷ 0x04 ∷ 0x04 ∷ 0x26 ∷ 0x21 ∷ 0x01 ∷ 0x20 ∷ 0x00 ∷ 0x04 ∷ 0x04 ∷ []; number = 3; place = 14; procap = empty_procap }
    ∷
    -- What is no "or" is a misfit of the 30, before its branches.
    record { records = shift; proof = 0x2a ∷ 0x30 ∷ 0x21 ∷ 0x04 ∷ 0x25 ∷ 0x25 ∷ []; number = 3; place = 1; procap = empty_procap }
    ∷
    -- The first branch comes before the second.
    record { records = shift; proof = 0x2a ∷ 0x30 ∷ 0x21 ∷ 0x00 ∷ 0x25 ∷ 0x25 ∷ []; number = 3; place = 4; procap = empty_procap }
    ∷
    -- A side stands on the interval of the "or", from 1000 to 2000, and not on the goal's.
    record { records = shift; proof = 0x2a ∷ 0x30 ∷ 0x21 ∷ 0x00 ∷ 0x26 ∷ 0x21 ∷ 0x01 ∷ 0x20 ∷ 0x00 ∷ 0x01 ∷ 0x00 ∷ 0x00 ∷ 0x00 ∷ 0x01 ∷ 0xf4 ∷ 0x01 ∷ 0x00 ∷ 0x00 ∷ 0x00 ∷ 0x05 ∷ 0xdc ∷ 0x26 ∷ 0x21 ∷ 0x02 ∷ 0x20 ∷ 0x00 ∷ 0x04 ∷ 0x04 ∷ []; number = 4; place = 7; procap = empty_procap }
    ∷
    -- It is a plain assumption: a says-in shuts it out.
    record { records = shift; proof = 0x2a ∷ 0x30 ∷ 0x21 ∷ 0x00 ∷ 0x26 ∷ 0x21 ∷ 0x0b ∷ 0x2a ∷ 0x20 ∷ 0x00 ∷ 0x04 ∷ 0x04 ∷ 0x26 ∷ 0x21 ∷ 0x02 ∷ 0x20 ∷ 0x00 ∷ 0x04 ∷ 0x04 ∷ []; number = 3; place = 8; procap = empty_procap }
    ∷
    -- The facts of both branches are listed, the first branch's first.
    record { records = shift; proof = 0x2a ∷ 0x30 ∷ 0x21 ∷ 0x00 ∷ 0x26 ∷ 0x21 ∷ 0x07 ∷ 0x22 ∷ 0x20 ∷ 0x00 ∷ 0x2c ∷ 0x04 ∷ 0x04 ∷ 0x26 ∷ 0x21 ∷ 0x08 ∷ 0x22 ∷ 0x20 ∷ 0x00 ∷ 0x2c ∷ 0x04 ∷ 0x04 ∷ []; number = 0; place = 0; procap = procap_of request_P 1000 2000 ((200, Name 7 ∷ []) ∷ (202, Name 7 ∷ []) ∷ []) }
    ∷
    -- Falsity shows what was asked for,
    record { records = shift; proof = 0x2a ∷ 0x31 ∷ 0x21 ∷ 0x05 ∷ []; number = 0; place = 0; procap = procap_of request_P 1000 2000 [] }
    ∷
    -- on whatever interval it was inferred,
    record { records = shift; proof = 0x2a ∷ 0x29 ∷ 0x21 ∷ 0x09 ∷ 0x31 ∷ 0x20 ∷ 0x00 ∷ []; number = 0; place = 0; procap = procap_of request_P earliest latest [] }
    ∷
    -- and top does not.
    record { records = shift; proof = 0x2a ∷ 0x31 ∷ 0x21 ∷ 0x06 ∷ []; number = 3; place = 1; procap = empty_procap }
    ∷
    -- Falsity is the same as falsity,
    record { records = shift; proof = 0x2a ∷ 0x26 ∷ 0x21 ∷ 0x0a ∷ 0x21 ∷ 0x05 ∷ 0x04 ∷ 0x04 ∷ []; number = 0; place = 0; procap = procap_of request_P 1000 2000 [] }
    ∷
    -- and not as top.
    record { records = shift; proof = 0x2a ∷ 0x26 ∷ 0x21 ∷ 0x0a ∷ 0x21 ∷ 0x06 ∷ 0x04 ∷ 0x04 ∷ []; number = 3; place = 4; procap = empty_procap }
    ∷
    -- An "or" is the same as itself,
    record { records = shift; proof = 0x2a ∷ 0x26 ∷ 0x21 ∷ 0x03 ∷ 0x21 ∷ 0x00 ∷ 0x04 ∷ 0x04 ∷ []; number = 0; place = 0; procap = procap_of request_P 1000 2000 [] }
    ∷
    -- and not with its sides exchanged.
    record { records = shift; proof = 0x2a ∷ 0x26 ∷ 0x21 ∷ 0x03 ∷ 0x21 ∷ 0x0c ∷ 0x04 ∷ 0x04 ∷ []; number = 3; place = 4; procap = empty_procap }
    ∷
    []

pub either_presses_come_out : All (ComesOut shift_buffer) presses
unfolding computes
either_presses_come_out =
    ((refl, refl, refl), ((refl, refl, refl), ((refl, refl, refl), ((refl, refl, refl), ((refl, refl, refl), ((refl, refl, refl), ((refl, refl, refl), ((refl, refl, refl), ((refl, refl, refl), ((refl, refl, refl), ((refl, refl, refl), ((refl, refl, refl), ((refl, refl, refl), ((refl, refl, refl), ((refl, refl, refl), ((refl, refl, refl), ((refl, refl, refl), ((refl, refl, refl), tt))))))))))))))))))

-- ── The direct check ──

-- By cases, with a fact in each.
abbrev by_cases : List ℕ
by_cases = 0x2a ∷ 0x30 ∷ 0x21 ∷ 0x00 ∷ 0x26 ∷ 0x21 ∷ 0x07 ∷ 0x22 ∷ 0x20 ∷ 0x00 ∷ 0x2c ∷ 0x04 ∷ 0x04 ∷ 0x26 ∷ 0x21 ∷ 0x08 ∷ 0x22 ∷ 0x20 ∷ 0x00 ∷ 0x2c ∷ 0x04 ∷ 0x04 ∷ []

-- The facts 200(7) and 202(7).
abbrev loaded : List ℕ
loaded = 0x00 ∷ 0xc8 ∷ 0x01 ∷ 0x00 ∷ 0x00 ∷ 0x07 ∷ []

abbrev idle : List ℕ
idle = 0x00 ∷ 0xca ∷ 0x01 ∷ 0x00 ∷ 0x00 ∷ 0x07 ∷ []

abbrev direct_presses : List DirectPress
direct_presses =
    -- Both facts must hold, whichever blender is on duty.
    record { moment = 1500; state = loaded ++ idle; number = 0; place = 0 }
    ∷
    -- Of two that are missing the first branch's is told, at its step 2C,
    record { moment = 1500; state = []; number = 10; place = 10 }
    ∷
    -- and the second branch's where it alone is missing.
    record { moment = 1500; state = loaded; number = 10; place = 19 }
    ∷
    []

pub direct_either_presses_come_out : All (DirectComesOut shift shift_buffer by_cases) direct_presses
unfolding computes
direct_either_presses_come_out = ((refl, refl), ((refl, refl), ((refl, refl), tt)))
