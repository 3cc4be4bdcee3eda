-- What is handed back for a term or a time: that which the reader finds there, by cases of what it finds.
use Prim.Native.Nat.{ℕ}
use mathlib.Core.Path.{◌≡◌, ap}
use mathlib.Core.List.{List}
use Rattle.std.specs.Prelude.{None, Option, Some}
use Rattle.procap.specs.Bytes.{term}
use Rattle.procap.specs.declared.fact.Term.{Term}
use Rattle.procap.specs.declared.fact.Term.TheVariants.{Name}
use Rattle.procap.specs.declared.time.Time.{Time}
use Rattle.bl.specs.Steps.{time}
use Rattle.steps.specs.declared.TermAt.{TermAt}
use Rattle.steps.specs.declared.TimeAt.{TimeAt}
use Rattle.steps.specs.TermsAt.{term_given, time_or_ctime, time_given}
use Rattle.steps.proofs.StepsRead.{time_read}

module _ (o : Option (Term × ℕ)) (at : ℕ) where
  -- A term that is found, and none.
  pub given_found : {t : Term} {e : ℕ} → o ≡ Some (t, e) → record { term = t; next = e } ≡ term_given o at
  unfolding term_given
  given_found h = rw h

  pub given_none : o ≡ None → record { term = Name 0; next = at } ≡ term_given o at
  unfolding term_given
  given_none h = rw h

-- What is given for a term that is found is that term, and the place after it.
pub term_found : (o : Option (Term × ℕ)) (at : ℕ) {r : TermAt} → r ≡ term_given o at
    → (t : Term) (e : ℕ) → o ≡ Some (t, e) → (r.term ≡ t) × (r.next ≡ e)
unfolding term_given
term_found o at given t e h =
    let same = rw h at given in
    (ap (λ r. r.term) same, ap (λ r. r.next) same)

-- What is given for a time that is read is that time, and the place after it.
pub time_found : (proof : List ℕ) (at : ℕ) {r : TimeAt} → r ≡ time_given (term proof at) at
    → (c : ℕ) (t : Time) (e : ℕ) → time proof c at ≡ Some (t, e) → (r.time ≡ t) × (r.next ≡ e)
unfolding term_given time_or_ctime
time_found proof at given c t e h =
    let same = rw (time_read proof c at t e h) at given in
    (ap (λ r. r.time) same, ap (λ r. r.next) same)
