-- What the door answers before the facts, test by test: a test that is passed leaves the answer to the next, and the first that is not
-- gives it.
use Prim.Native.Nat.{ℕ, ◌≤◌, ◌<◌}
use mathlib.Core.Path.{◌≡◌, refl}
use mathlib.Core.List.{List}
use Rattle.std.specs.Prelude.{Err, None, Ok, Option, Some}
use native.Mathlib.Decide.{dec_le}
use native.Mathlib.Omega.{arith}
use Rattle.procap.specs.Times.{latest}
use Rattle.procap.specs.Facts.{Spelled}
use Rattle.procap.specs.Writable.{Writable}
use Rattle.procap.specs.Outcome.{go_on, or_else, answer_of}
use Rattle.procap.specs.States.{stated}
use Rattle.procap.specs.Desk.{read_press}
use Rattle.procap.specs.Deciding.{writable?, request?}
use Rattle.procap.specs.declared.answer.Answer.TheVariants.{StateMalformed, RequestDiffers, MomentOutside, MomentAboveLatest, ProcapMalformed}
use Rattle.procap.specs.declared.procap.Request.{Request}
use Rattle.procap.specs.declared.procap.Procap.{Procap}
use Rattle.procap.proofs.Granted.{is_so, is_not_so, reads_press}
use Rattle.state.specs.Standing.{WellFormed}
use Rattle.door.specs.Door.{before_facts, opening}
use Rattle.door.proofs.BeforeFacts.{is_passed}

-- Bytes that are no state say nothing.
says_nothing : (state : List ℕ) → (WellFormed state → ⊥) → stated state ≡ None
says_nothing state n = by (stated state) refl
  where
    by : (o : Option (List Spelled)) → stated state ≡ o → stated state ≡ None
    by None e = e
    by (Some σ) e = absurd (n (σ, e))

-- 12
pub not_writable : (p : Procap) (r : Request) (m : ℕ) (state : List ℕ) → (Writable p → ⊥) → opening p r m state ≡ Err ProcapMalformed
unfolding opening go_on
not_writable p r m state n = rw (is_not_so ProcapMalformed (writable? p) n) refl

pub unwritable : (p : Procap) (r : Request) (m : ℕ) (state : List ℕ) → (Writable p → ⊥) → ProcapMalformed ≡ answer_of (opening p r m state)
unfolding answer_of
unwritable p r m state n = rw (not_writable p r m state n) refl

module _ (asked : Request) (from to : ℕ) (r : Request) (m : ℕ) (state : List ℕ) where
  -- 11
  pub above_latest : latest < m → before_facts asked from to r m state ≡ Err MomentAboveLatest
  unfolding before_facts read_press go_on
  above_latest l = rw (is_not_so MomentAboveLatest (dec_le m latest) (λ h. omega arith)) refl

  module _ (in_range : m ≤ latest) where
    -- 7
    pub state_malformed : (WellFormed state → ⊥) → before_facts asked from to r m state ≡ Err StateMalformed
    unfolding before_facts read_press go_on or_else
    state_malformed n = rw (is_so MomentAboveLatest (dec_le m latest) in_range) (rw (says_nothing state n) refl)

    module _ (formed : WellFormed state) where
      -- 8
      pub request_differs : (r ≡ asked → ⊥) → before_facts asked from to r m state ≡ Err RequestDiffers
      unfolding before_facts go_on
      request_differs n =
          rw (reads_press m state formed.0 in_range formed.1) (rw (is_not_so RequestDiffers (request? r asked) n) refl)

      module _ (own : r ≡ asked) where
        -- 9, by the one moment
        pub too_early : m < from → before_facts asked from to r m state ≡ Err MomentOutside
        unfolding before_facts go_on
        too_early l =
            rw (reads_press m state formed.0 in_range formed.1)
            (rw (is_so RequestDiffers (request? r asked) own) (rw (is_not_so MomentOutside (dec_le from m) (λ h. omega arith)) refl))

        module _ (since : from ≤ m) where
          -- 9, by the other
          pub too_late : to < m → before_facts asked from to r m state ≡ Err MomentOutside
          unfolding before_facts go_on
          too_late l =
              rw (reads_press m state formed.0 in_range formed.1)
              (rw (is_so RequestDiffers (request? r asked) own)
              (rw (is_so MomentOutside (dec_le from m) since) (rw (is_not_so MomentOutside (dec_le m to) (λ h. omega arith)) refl)))

          -- None of these
          pub left_to_the_facts : m ≤ to → before_facts asked from to r m state ≡ Ok formed.0
          left_to_the_facts until = is_passed asked from to r m state formed.0 in_range formed.1 own since until
