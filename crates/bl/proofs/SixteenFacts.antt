-- As many facts as there may be, computed: sixteen steps 2C list sixteen facts, and with one step 2C more the proof is none.
use Prim.Native.Nat.{ℕ, zero, suc, ◌+◌}
use mathlib.Core.Path.{◌≡◌, refl}
use mathlib.Core.List.{List, [], ◌∷◌, ◌++◌}
use Rattle.procap.specs.Times.{earliest, latest}
use Rattle.procap.specs.Facts.{Spelled}
use Rattle.procap.specs.Procaps.{procap_of}
use Rattle.procap.specs.declared.answer.Answer.TheVariants.{ProofMalformed}
use Rattle.procap.specs.declared.fact.Term.TheVariants.{Name}
use Rattle.procap.specs.declared.time.Time.TheVariants.{MinusInfinity, PlusInfinity}
use Rattle.bl.specs.declared.Certificate.{Certificate}
use Rattle.std.specs.Prelude.{Err, Ok}
use Rattle.bl.specs.Calls.{verified}
use Rattle.bl.proofs.CaseP.{request_P, computes}

-- Two parts under a tag, and sixteen, joined by twos.
abbrev two : ℕ → (ℕ → List ℕ) → ℕ → List ℕ
two tag part k = tag ∷ (part k ++ part (k + 1))

abbrev four : ℕ → (ℕ → List ℕ) → ℕ → List ℕ
four tag part k = tag ∷ (two tag part k ++ two tag part (k + 2))

abbrev eight : ℕ → (ℕ → List ℕ) → ℕ → List ℕ
eight tag part k = tag ∷ (four tag part k ++ four tag part (k + 4))

abbrev sixteen : ℕ → (ℕ → List ℕ) → List ℕ
sixteen tag part = tag ∷ (eight tag part 0 ++ eight tag part 8)

-- The fact 200(k), and the step that asks for it.
abbrev loaded : ℕ → List ℕ
loaded k = 0x18 ∷ 0x00 ∷ 0xc8 ∷ 0x01 ∷ 0x00 ∷ 0x00 ∷ k ∷ []

abbrev asked : ℕ → List ℕ
asked k = 0x2c ∷ []

-- Certificate 0, so many bytes long: where the facts hold, 100(2, 7, 9).
abbrev rule : List ℕ → List ℕ
rule facts = 0x12 ∷ (facts ++ (0x17 ∷ 0x00 ∷ 0x64 ∷ 0x03 ∷ 0x00 ∷ 0x00 ∷ 0x02 ∷ 0x00 ∷ 0x00 ∷ 0x07 ∷ 0x00 ∷ 0x00 ∷ 0x09 ∷ []))

abbrev records : ℕ → List Certificate
records length = record { principal = 1; from = MinusInfinity; to = PlusInfinity; start = 0; length = length } ∷ []

-- The proof that uses it, over all time.
abbrev applied : List ℕ → List ℕ
applied steps = 0x2a ∷ 0x26 ∷ 0x21 ∷ 0x00 ∷ (steps ++ (0x02 ∷ 0x03 ∷ []))

-- The facts 200(k), 200(k + 1) and so on, n of them.
unfoldable facts_from : ℕ → ℕ → List Spelled
facts_from k zero = []
facts_from k (suc n) = (200, Name k ∷ []) ∷ facts_from (suc k) n

-- Sixteen facts are asked for, and all are listed.
sixteen_are_listed :
    verified request_P (records 141) (rule (sixteen 0x11 loaded)) [] (applied (sixteen 0x22 asked)) ≡ Ok (procap_of request_P earliest latest (facts_from 0 16))
unfolding computes facts_from
sixteen_are_listed = refl

-- The first of them is asked for again: that is a 17th step 2C, and the answer is 2, at no place.
a_seventeenth_step_is_malformed :
    verified request_P (records 149) (rule (0x11 ∷ (sixteen 0x11 loaded ++ loaded 0))) [] (applied (0x22 ∷ (sixteen 0x22 asked ++ asked 0))) ≡ Err ProofMalformed
unfolding computes
a_seventeenth_step_is_malformed = refl
