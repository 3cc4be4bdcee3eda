-- The door opens exactly when the request is the procap's own and the procap is satisfied: each test that it passes is one
-- part of that. And what it hands to C is 0 exactly when it opens.
use Prim.Native.Nat.{ℕ, suc}
use mathlib.Core.Path.{◌≡◌, refl}
use mathlib.Core.List.{List, [], ◌∷◌}
use mathlib.Core.Logic.{◌↔◌}
use Rattle.procap.specs.Lists.{All}
use Rattle.procap.specs.Facts.{Spelled}
use Rattle.procap.specs.Procaps.{listed, HoldsAt}
use Rattle.std.specs.Prelude.{Ok}
use Rattle.procap.specs.Outcome.{go_on}
use Rattle.procap.specs.Deciding.{writable?, holds_at?}
use Rattle.procap.specs.declared.answer.Answer.TheVariants.{FactMissing, ProcapMalformed}
use Rattle.procap.specs.declared.procap.Request.{Request}
use Rattle.procap.specs.declared.procap.Procap.{Procap}
use Rattle.procap.proofs.Granted.{went_on, goes_on, was_so, is_so}
use Rattle.door.specs.Door.{each_holds, opening}
use Rattle.door.specs.Opens.{Opens}
use Rattle.door.proofs.BeforeFacts.{was_passed, is_passed}

module _ (m : ℕ) (σ : List Spelled) where
  -- Where no fact is missing, each holds, and the other way round.
  none_missing : (i : ℕ) (fs : List Spelled) → each_holds m σ i fs ≡ Ok tt → All (HoldsAt m σ) fs
  unfolding each_holds All
  none_missing i [] e = tt
  none_missing i (f ∷ fs) e =
      went_on _ _ _ e λ u e₁ e₂.
      (was_so (FactMissing i) (holds_at? m σ f) u e₁, none_missing (suc i) fs e₂)

  all_there : (i : ℕ) (fs : List Spelled) → All (HoldsAt m σ) fs → each_holds m σ i fs ≡ Ok tt
  unfolding each_holds All
  all_there i [] h = refl
  all_there i (f ∷ fs) h = rw (goes_on _ (λ _. each_holds m σ (suc i) fs) tt (is_so (FactMissing i) (holds_at? m σ f) h.0)) (all_there (suc i) fs h.1)

module _ (p : Procap) (r : Request) (m : ℕ) (state : List ℕ) where
  opened : opening p r m state ≡ Ok tt → Opens p r m state
  unfolding opening
  opened e =
      went_on _ _ _ e λ u e₁ e.
      went_on _ _ _ e λ σ e₂ e₃.
      was_passed p.request p.from p.to r m state σ e₂ λ in_range reads own since until.
      record {
        can_be_written = was_so ProcapMalformed (writable? p) u e₁;
        moment_in_range = in_range;
        facts = σ;
        state_reads = reads;
        own_request = own;
        satisfied = record { since = since; until = until; facts_hold = none_missing m σ 0 (listed p) e₃ };
      }

  opens : Opens p r m state → opening p r m state ≡ Ok tt
  unfolding opening go_on
  opens o =
      let σ = o.facts in
      let s = o.satisfied in
      rw (is_so ProcapMalformed (writable? p) o.can_be_written)
      (rw (is_passed p.request p.from p.to r m state σ o.moment_in_range o.state_reads o.own_request s.since s.until)
      (all_there m σ 0 (listed p) s.facts_hold))

  -- The door opens exactly when the request is the procap's own and the procap is satisfied, for a procap that can be written, a moment
  -- in range and a state that is well formed.
  pub opens_exactly : (opening p r m state ≡ Ok tt) ↔ Opens p r m state
  opens_exactly = (opened, opens)
