-- The fifteen presses, computed from the bytes and texts of the page over the definitions that the calls' contracts cite:
-- verify's nine on case P's request and certificate, and the door's six on case P's text.
use Prim.Native.Nat.{ℕ}
use Prim.Native.String.{String}
use mathlib.Core.Path.{◌≡◌, refl}
use mathlib.Core.List.{List, [], ◌∷◌}
use Rattle.procap.specs.Lists.{All}
use Rattle.procap.specs.Facts.{spelled}
use Rattle.procap.specs.Procaps.{listed, request_of, empty_procap}
use Rattle.procap.specs.Answers.{number_of, place_of}
use Rattle.procap.specs.Outcome.{answer_of, procap_handed}
use Rattle.procap.specs.Writable.{TermInForm}
use Rattle.procap.specs.Deciding.{all?, distinct?, arguments?, facts?, in_range?, term_in_form?, fact_in_form?, request?, request_in_form?, writable?}
use Rattle.procap.specs.declared.procap.Request.{Request}
use Rattle.procap.specs.declared.procap.Procap.{Procap}
use Rattle.bl.specs.Calls.{verified}
use Rattle.bl.proofs.CaseP.{request_P, records_P, buffer_P, proof_P, computes as calls-compute}
use Rattle.text.specs.Words.{bytes_of}
use Rattle.text.specs.Calls.{reading}
use Rattle.text.proofs.Samples.{computes as texts-compute}
use Rattle.door.specs.Door.{each_holds, before_facts, opening, opening_text}

-- Case P's text.
abbrev pub text_P : String
text_P = "procap=1\nwho=2\nwhat=7\nright=9\nfrom=1000\nto=2000\nfacts=1\nfact=200 n7\n"

-- The procap that a text says.
abbrev pub said : String → Procap
said text = procap_handed (reading (bytes_of text))

-- The state in which the fact 200(7) is present.
abbrev pub loaded : List ℕ
loaded = 0x00 ∷ 0xc8 ∷ 0x01 ∷ 0x00 ∷ 0x00 ∷ 0x07 ∷ []

pub data Press : Type 0 where
  -- A proof, and the number, the place and the procap that verify gives back for it.
  office : List ℕ → ℕ → ℕ → Procap → Press
  -- A request, a moment and a state, and the number and the place that the door gives back for them.
  desk : Request → ℕ → List ℕ → ℕ → ℕ → Press

abbrev pub ComesOut : Press → Type 0
ComesOut (office proof number place procap) =
    let out = verified request_P records_P buffer_P [] proof in
    (number_of (answer_of out) ≡ number) × (place_of (answer_of out) ≡ place) × (procap_handed out ≡ procap)
ComesOut (desk request moment state number place) =
    let out = opening_text (bytes_of text_P) request moment state in
    (number_of (answer_of out) ≡ number) × (place_of (answer_of out) ≡ place)

abbrev pub fifteen_presses : List Press
fifteen_presses =
    -- P
    office proof_P 0 0 (said text_P)
    ∷
    -- P with t1,t2 = 1500,1500
    office (0x2a ∷ 0x26 ∷ 0x27 ∷ 0x00 ∷ 0x00 ∷ 0x02 ∷ 0x21 ∷ 0x00 ∷ 0x2c ∷ 0x01 ∷ 0x00 ∷ 0x00 ∷ 0x00 ∷ 0x05 ∷ 0xdc ∷ 0x01 ∷ 0x00 ∷ 0x00 ∷ 0x00 ∷ 0x05 ∷ 0xdc ∷ []) 0 0
    (said "procap=1\nwho=2\nwhat=7\nright=9\nfrom=1500\nto=1500\nfacts=1\nfact=200 n7\n")
    ∷
    -- 1500,1400
    office (0x2a ∷ 0x26 ∷ 0x27 ∷ 0x00 ∷ 0x00 ∷ 0x02 ∷ 0x21 ∷ 0x00 ∷ 0x2c ∷ 0x01 ∷ 0x00 ∷ 0x00 ∷ 0x00 ∷ 0x05 ∷ 0xdc ∷ 0x01 ∷ 0x00 ∷ 0x00 ∷ 0x00 ∷ 0x05 ∷ 0x78 ∷ []) 5 0 empty_procap
    ∷
    -- 999,2000
    office (0x2a ∷ 0x26 ∷ 0x27 ∷ 0x00 ∷ 0x00 ∷ 0x02 ∷ 0x21 ∷ 0x00 ∷ 0x2c ∷ 0x01 ∷ 0x00 ∷ 0x00 ∷ 0x00 ∷ 0x03 ∷ 0xe7 ∷ 0x01 ∷ 0x00 ∷ 0x00 ∷ 0x00 ∷ 0x07 ∷ 0xd0 ∷ []) 4 1 empty_procap
    ∷
    -- the instance term 3 for 2
    office (0x2a ∷ 0x26 ∷ 0x27 ∷ 0x00 ∷ 0x00 ∷ 0x03 ∷ 0x21 ∷ 0x00 ∷ 0x2c ∷ 0x04 ∷ 0x04 ∷ []) 3 1 empty_procap
    ∷
    -- without its 2A
    office (0x26 ∷ 0x27 ∷ 0x00 ∷ 0x00 ∷ 0x02 ∷ 0x21 ∷ 0x00 ∷ 0x2c ∷ 0x04 ∷ 0x04 ∷ []) 3 5 empty_procap
    ∷
    -- proof 25
    office (0x25 ∷ []) 3 0 empty_procap
    ∷
    -- empty proof
    office [] 2 0 empty_procap
    ∷
    -- a byte after P's proof
    office (0x2a ∷ 0x26 ∷ 0x27 ∷ 0x00 ∷ 0x00 ∷ 0x02 ∷ 0x21 ∷ 0x00 ∷ 0x2c ∷ 0x04 ∷ 0x04 ∷ 0x00 ∷ []) 2 0 empty_procap
    ∷
    -- with fact 200(7) present, at 1000 and at 2000
    desk request_P 1000 loaded 0 0
    ∷
    desk request_P 2000 loaded 0 0
    ∷
    -- at 999 and at 2001
    desk request_P 999 loaded 9 0
    ∷
    desk request_P 2001 loaded 9 0
    ∷
    -- at 1500 with an empty state
    desk request_P 1500 [] 10 0
    ∷
    -- asked for who=3
    desk (request_of 3 7 9) 1500 loaded 8 0
    ∷
    []

pub fifteen_presses_come_out : All ComesOut fifteen_presses
unfolding calls-compute texts-compute spelled listed TermInForm all? distinct? arguments? facts? in_range? term_in_form? fact_in_form? request? request_in_form? writable? reading each_holds before_facts opening opening_text
fifteen_presses_come_out = (
  (refl, refl, refl),
  (
    (refl, refl, refl),
    (
      (refl, refl, refl),
      (
        (refl, refl, refl),
        (
          (refl, refl, refl),
          (
            (refl, refl, refl),
            (
              (refl, refl, refl),
              (
                (refl, refl, refl),
                (
                  (refl, refl, refl),
                  ((refl, refl), ((refl, refl), ((refl, refl), ((refl, refl), ((refl, refl), ((refl, refl), tt)))))),
                ),
              ),
            ),
          ),
        ),
      ),
    ),
  ),
)
