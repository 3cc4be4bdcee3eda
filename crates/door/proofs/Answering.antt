-- What the door hands to C is 0 exactly when it opens: every refusal has a number of its own, and no place is above 15.
use Prim.Native.Nat.{ℕ, suc, ◌+◌, ◌≤◌, ◌<◌}
use mathlib.Core.Path.{◌≡◌, refl}
use mathlib.Core.List.{List, [], ◌∷◌}
use mathlib.Core.Logic.{◌↔◌}
use native.Mathlib.Decide.{dec_le}
use native.Mathlib.Omega.{arith}
use lib.ListN.{length}
use Rattle.procap.specs.Facts.{Spelled, spelled}
use Rattle.procap.specs.Procaps.{listed, most_facts}
use Rattle.procap.specs.Answers.{number_of, place_of}
use Rattle.std.specs.Prelude.{Err, Ok}
use Rattle.procap.specs.Outcome.{Outcome, answer_of}
use Rattle.procap.specs.Deciding.{writable?, request?, holds_at?}
use Rattle.procap.specs.declared.answer.Answer.{Answer}
use Rattle.procap.specs.declared.answer.Answer.TheVariants.{RequestDiffers, MomentOutside, FactMissing, ProcapMalformed}
use Rattle.procap.specs.declared.procap.Request.{Request}
use Rattle.procap.specs.declared.procap.Procap.{Procap}
use Rattle.procap.proofs.Granted.{was_so}
use Rattle.procap.proofs.Refused.{IfRefused, go_on_refused, require_refused, or_else_refused, press_refused}
use Rattle.procap.proofs.Indices.{made_length}
use Rattle.text.specs.Reader.{text_in}
use Rattle.text.specs.Calls.{reading}
use Rattle.door.specs.Door.{each_holds, before_facts, opening, opening_text, packed}

-- The answer has a number from 1 to 14, and its place is one of a procap's facts.
abbrev pub Refuses : Answer → Type 0
Refuses answer = (0 < number_of answer) × (place_of answer < most_facts)

-- If the outcome is a refusal, it is such an answer.
abbrev pub RefusesWell : {A : Type 0} → Outcome A → Type 0
RefusesWell x = IfRefused Refuses x

pub before_refuses : (asked : Request) (from to : ℕ) (r : Request) (m : ℕ) (state : List ℕ) → RefusesWell (before_facts asked from to r m state)
unfolding before_facts
before_refuses asked from to r m state =
    go_on_refused Refuses _ _ (press_refused Refuses (omega arith, omega arith) (omega arith, omega arith) m state) λ σ _.
    go_on_refused Refuses _ _ (require_refused Refuses RequestDiffers (request? r asked) (omega arith, omega arith)) λ _ _.
    go_on_refused Refuses _ _ (require_refused Refuses MomentOutside (dec_le from m) (omega arith, omega arith)) λ _ _.
    go_on_refused Refuses _ _ (require_refused Refuses MomentOutside (dec_le m to) (omega arith, omega arith)) λ _ _.
    tt

each_refuses : (m : ℕ) (σ : List Spelled) (i : ℕ) (fs : List Spelled) → i + length fs ≤ most_facts → RefusesWell (each_holds m σ i fs)
unfolding each_holds
each_refuses m σ i [] l = tt
each_refuses m σ i (f ∷ fs) l =
    go_on_refused Refuses _ _ (require_refused Refuses (FactMissing i) (holds_at? m σ f) (omega arith, omega arith))
    (λ _ _. each_refuses m σ (suc i) fs (omega arith))

-- A procap lists no more facts than it counts.
few_listed : (p : Procap) → p.count ≤ most_facts → length (listed p) ≤ most_facts
unfolding listed
few_listed p l = let e = made_length spelled p.facts p.count in omega arith

opening_refuses : (p : Procap) (r : Request) (m : ℕ) (state : List ℕ) → RefusesWell (opening p r m state)
unfolding opening
opening_refuses p r m state =
    go_on_refused Refuses _ _ (require_refused Refuses ProcapMalformed (writable? p) (omega arith, omega arith)) λ u e.
    go_on_refused Refuses _ _ (before_refuses p.request p.from p.to r m state) λ σ _.
    each_refuses m σ 0 (listed p) (omega (arith, few_listed p (was_so ProcapMalformed (writable? p) u e).few_facts))

text_refuses : (text : List ℕ) (r : Request) (m : ℕ) (state : List ℕ) → RefusesWell (opening_text text r m state)
unfolding opening_text reading
text_refuses text r m state =
    go_on_refused Refuses _ _ (or_else_refused Refuses ProcapMalformed (text_in text) (omega arith, omega arith))
    (λ p _. opening_refuses p r m state)

-- The place of what the door answers.
small_place : (x : Outcome (Unit {0})) → RefusesWell x → place_of (answer_of x) < most_facts
unfolding answer_of
small_place (Ok u) h = omega arith
small_place (Err answer) h = h.1

pub places_are_small : (text : List ℕ) (r : Request) (m : ℕ) (state : List ℕ) → place_of (answer_of (opening_text text r m state)) < most_facts
places_are_small text r m state = small_place _ (text_refuses text r m state)

-- What is handed to C is 0 exactly when the door opens.
pub zero_exactly_when_open : (text : List ℕ) (r : Request) (m : ℕ) (state : List ℕ)
    → (packed (answer_of (opening_text text r m state)) ≡ 0) ↔ (opening_text text r m state ≡ Ok tt)
unfolding answer_of
zero_exactly_when_open text r m state = (is_open _ (text_refuses text r m state), λ e. rw e refl)
  where
    is_open : (x : Outcome (Unit {0})) → RefusesWell x → packed (answer_of x) ≡ 0 → x ≡ Ok tt
    is_open (Ok u) h e = refl
    is_open (Err answer) h e = absurd (omega (arith, h.0))
