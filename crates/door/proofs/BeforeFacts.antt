-- What comes before the facts, all of it at once: nothing does exactly where each of its tests is passed. Of a procap that can be written
-- what stops a press there is what the door comes to, and else the facts decide, in what the state says.
use Prim.Native.Nat.{ℕ, ◌≤◌}
use mathlib.Core.Path.{◌≡◌, sym, ap, refl, ◌∙◌}
use mathlib.Core.List.{List}
use Rattle.std.specs.Prelude.{Err, Ok, Some}
use native.Mathlib.Decide.{dec_le}
use Rattle.procap.specs.Times.{latest}
use Rattle.procap.specs.Facts.{Spelled}
use Rattle.procap.specs.Procaps.{listed}
use Rattle.procap.specs.Writable.{Writable}
use Rattle.procap.specs.Answers.{number_of}
use Rattle.procap.specs.Outcome.{Outcome, go_on, answer_of}
use Rattle.procap.specs.States.{stated}
use Rattle.procap.specs.Deciding.{writable?, request?}
use Rattle.procap.specs.declared.answer.Answer.{Answer}
use Rattle.procap.specs.declared.answer.Answer.TheVariants.{RequestDiffers, MomentOutside, ProcapMalformed}
use Rattle.procap.specs.declared.procap.Request.{Request}
use Rattle.procap.specs.declared.procap.Procap.{Procap}
use Rattle.procap.proofs.Granted.{same_grant, no_grant, went_on, goes_on, was_so, is_so, press_read, reads_press}
use Rattle.door.specs.Door.{each_holds, NamesMissing, before_facts, opening}

-- What is refused with a number that is no 0 is not gone on from.
pub stays_refused : {A B : Type 0} (x : Outcome A) (f : A → Outcome B) (answer : Answer) → answer ≡ answer_of x → (number_of answer ≡ 0 → ⊥)
    → answer ≡ answer_of (go_on x f)
unfolding go_on answer_of
stays_refused (Ok a) f answer e n = absurd (n (ap number_of e))
stays_refused (Err b) f answer e n = e

module _ (asked : Request) (from to : ℕ) (r : Request) (m : ℕ) (state : List ℕ) where
  -- Where nothing comes before the facts, each test was passed, and the facts are looked for in what the state says.
  pub was_passed : {C : Type 0} (σ : List Spelled) → before_facts asked from to r m state ≡ Ok σ
      → (m ≤ latest → stated state ≡ Some σ → r ≡ asked → from ≤ m → m ≤ to → C) → C
  unfolding before_facts
  was_passed σ e k =
      went_on _ _ _ e λ τ e₁ e.
      went_on _ _ _ e λ v e₂ e.
      went_on _ _ _ e λ w e₃ e.
      went_on _ _ _ e λ x e₄ e₅.
      press_read m state τ e₁ λ in_range reads.
      k in_range (reads ∙ ap Some (same_grant e₅)) (was_so RequestDiffers (request? r asked) v e₂)
      (was_so MomentOutside (dec_le from m) w e₃) (was_so MomentOutside (dec_le m to) x e₄)

  -- And where each is passed, nothing does.
  pub is_passed : (σ : List Spelled) → m ≤ latest → stated state ≡ Some σ → r ≡ asked → from ≤ m → m ≤ to
      → before_facts asked from to r m state ≡ Ok σ
  unfolding before_facts go_on
  is_passed σ in_range reads own since until =
      rw (reads_press m state σ in_range reads)
      (rw (is_so RequestDiffers (request? r asked) own)
      (rw (is_so MomentOutside (dec_le from m) since) (rw (is_so MomentOutside (dec_le m to) until) refl)))

-- What an outcome is of which only the refusal was kept: refused with the same answer, or some grant.
pub stopped : {A : Type 0} (x : Outcome A) (answer : Answer) → ◌≡◌ {A = Outcome (Unit {0})} (Err answer) (go_on x (λ _. Ok tt)) → x ≡ Err answer
unfolding go_on
stopped (Ok a) answer e = no_grant e
stopped (Err b) answer e = let same : answer ≡ b = cc in cc

pub let_through : {A : Type 0} (x : Outcome A) → ◌≡◌ {A = Outcome (Unit {0})} (Ok tt) (go_on x (λ _. Ok tt)) → (a : A) × (x ≡ Ok a)
unfolding go_on
let_through (Ok a) e = (a, refl)
let_through (Err b) e = no_grant (sym e)

module _ (p : Procap) (w : Writable p) (r : Request) (m : ℕ) (state : List ℕ) where
  -- A procap that can be written leaves the door to what comes before the facts, and then to these.
  past_twelve : opening p r m state ≡ go_on (before_facts p.request p.from p.to r m state) (λ σ. each_holds m σ 0 (listed p))
  unfolding opening
  past_twelve = goes_on _ _ tt (is_so ProcapMalformed (writable? p) w)

  -- What stops the press before the facts is what the door comes to,
  pub by_what_comes_before : (answer : Answer) → ◌≡◌ {A = Outcome (Unit {0})} (Err answer) (go_on (before_facts p.request p.from p.to r m state) (λ _. Ok tt))
      → opening p r m state ≡ Err answer
  unfolding go_on
  by_what_comes_before answer e = rw (past_twelve, stopped _ answer e) refl

  -- and else the facts say it.
  pub by_the_facts : ◌≡◌ {A = Outcome (Unit {0})} (Ok tt) (go_on (before_facts p.request p.from p.to r m state) (λ _. Ok tt)) → (x : Outcome (Unit {0}))
      → NamesMissing m state (listed p) x → x ≡ opening p r m state
  by_the_facts e x named =
      let (σ, f) = let_through _ e in
      was_passed p.request p.from p.to r m state σ f λ _ reads _ _ _.
      named σ reads ∙ sym (past_twelve ∙ goes_on _ (λ σ. each_holds m σ 0 (listed p)) σ f)
