-- What the door answers, on a procap value and on a text.
use Rattle.std.specs.Prelude.{ℕ, suc, ◌+◌, ◌*◌, ◌<◌, ◌≡◌, List, [], ◌∷◌, length, drop, Ok, Some}
use Rattle.std.proofs.Math.Decide.{dec_le}
use Rattle.procap.specs.Facts.{Spelled, spelled}
use Rattle.procap.specs.Procaps.{listed, request_of}
use Rattle.procap.specs.Answers.{number_of, place_of}
use Rattle.procap.specs.Outcome.{Outcome, go_on, require}
use Rattle.procap.specs.States.{stated}
use Rattle.procap.specs.Desk.{read_press}
use Rattle.procap.specs.Deciding.{writable?, request?, holds_at?}
use Rattle.procap.specs.declared.answer.Answer.{Answer}
use Rattle.procap.specs.declared.answer.Answer.TheVariants.{RequestDiffers, MomentOutside, FactMissing, ProcapMalformed}
use Rattle.procap.specs.declared.fact.Fact.{Fact}
use Rattle.procap.specs.declared.procap.Request.{Request}
use Rattle.procap.specs.declared.procap.Procap.{Procap}
use Rattle.text.specs.Calls.{reading}
use Rattle.door.specs.declared.decide.RequestNumbers.{RequestNumbers}

-- [Numbers 10; D44] Each fact holds; the first that does not is named by its index, the first of these being i.
unfoldable pub each_holds : ℕ → List Spelled → ℕ → List Spelled → Outcome (Unit {0})
each_holds m σ i [] = Ok tt
each_holds m σ i (f ∷ fs) =
    go_on (require (FactMissing i) (holds_at? m σ f)) λ _.
    each_holds m σ (suc i) fs

-- What comes of it names the first of these facts that does not hold, in bytes that are a state.
abbrev pub NamesMissing : ℕ → List ℕ → List Spelled → Outcome (Unit {0}) → Type 0
NamesMissing m state fs x = (σ : List Spelled) → stated state ≡ Some σ → x ≡ each_holds m σ 0 fs

-- So many facts are those that a call gives by their indices.
abbrev pub GivesFacts : (ℕ → Fact → Type 0) → ℕ → List Spelled → Type 0
GivesFacts gives count fs =
    (length fs ≡ count) × ((i : ℕ) (f : Fact) → i < count → gives i f → drop i fs ≡ spelled f ∷ drop (suc i) fs)

-- [D6, D7] The request of the three numbers of a press.
abbrev pub request_in : RequestNumbers → Request
request_in n = request_of n.who n.what n.right

-- [D43] What comes before the facts, for a procap with this request and these moments: 11, 7, 8, 9, and else the state.
unfoldable pub before_facts : Request → ℕ → ℕ → Request → ℕ → List ℕ → Outcome (List Spelled)
before_facts asked from to r m state =
    go_on (read_press m state) λ σ.
    go_on (require RequestDiffers (request? r asked)) λ _.
    go_on (require MomentOutside (dec_le from m)) λ _.
    go_on (require MomentOutside (dec_le m to)) λ _.
    Ok σ

-- [Numbers, order of the door] 12, then what comes before the facts, then 10: in all 12, 11, 7, 8, 9, 10.
unfoldable pub opening : Procap → Request → ℕ → List ℕ → Outcome (Unit {0})
opening p r m state =
    go_on (require ProcapMalformed (writable? p)) λ _.
    go_on (before_facts p.request p.from p.to r m state) λ σ.
    each_holds m σ 0 (listed p)

-- [Two questions, the door for C; D7] What it answers to the desk firmware, which has the procap as its text: 12 comes first, for bytes
-- that are none.
unfoldable pub opening_text : List ℕ → Request → ℕ → List ℕ → Outcome (Unit {0})
opening_text text r m state = go_on (reading text) λ p. opening p r m state

-- [Two questions, the door for C] What is handed to C: 256 times the number plus the place.
abbrev pub packed : Answer → ℕ
packed answer = 256 * number_of answer + place_of answer
