-- What a press on paper is: a case for case P's request, and the answer that is to come out of its bytes.
use Prim.Native.Nat.{ℕ}
use mathlib.Core.Path.{◌≡◌}
use mathlib.Core.List.{List, []}
use Rattle.procap.specs.Answers.{number_of, place_of}
use Rattle.procap.specs.declared.time.Time.{Time}
use Rattle.procap.specs.declared.procap.Procap.{Procap}
use Rattle.procap.specs.Outcome.{answer_of, procap_handed}
use Rattle.bl.specs.declared.Certificate.{Certificate}
use Rattle.bl.specs.Calls.{verified, directly}
use Rattle.bl.proofs.CaseP.{request_P}

abbrev pub by_administrator : Time → Time → ℕ → ℕ → Certificate
by_administrator from to start length = record { principal = 1; from = from; to = to; start = start; length = length }

-- At the office: records over a buffer, pairs and a proof, and what verify gives back.
pub record Press : Type 0 where
  pub records : List Certificate
  pub proof : List ℕ
  pub number : ℕ
  pub place : ℕ
  pub procap : Procap

abbrev pub ComesOutWith : List ℕ → List ℕ → Press → Type 0
ComesOutWith pairs buffer x =
    let out = verified request_P x.records buffer pairs x.proof in
    (number_of (answer_of out) ≡ x.number) × (place_of (answer_of out) ≡ x.place) × (procap_handed out ≡ x.procap)

-- The same with no pairs.
abbrev pub ComesOut : List ℕ → Press → Type 0
ComesOut = ComesOutWith []

-- At the desk: a moment and a state, and what the direct check of a case gives back.
pub record DirectPress : Type 0 where
  pub moment : ℕ
  pub state : List ℕ
  pub number : ℕ
  pub place : ℕ

abbrev pub DirectComesOutWith : List ℕ → List Certificate → List ℕ → List ℕ → DirectPress → Type 0
DirectComesOutWith pairs records buffer proof x =
    let out = directly request_P records buffer pairs proof x.moment x.state in
    (number_of (answer_of out) ≡ x.number) × (place_of (answer_of out) ≡ x.place)

abbrev pub DirectComesOut : List Certificate → List ℕ → List ℕ → DirectPress → Type 0
DirectComesOut = DirectComesOutWith []
