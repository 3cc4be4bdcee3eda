-- What verify, the direct check and the door hand back for three names and for bytes is what the theorems in numbers are about: their
-- hypotheses are met by every `u16` and every `&[u8]`.
use Prim.Native.Nat.{ℕ, ◌<◌}
use mathlib.Core.Bool.{true, not, beq}
use mathlib.Core.Path.{◌≡◌, refl, sym, ap, ◌∙◌}
use mathlib.Core.List.{List}
use mathlib.Core.Logic.{◌↔◌}
use native.Mathlib.Decide.{dec_le}
use native.Mathlib.Omega.{arith}
use borrow.Author.Tests.{eq-eqb, ne_eqb}
use mir.Syntax.{w8, w16}
use mir.Val.{Fits}
use lib.Dec.{eqb}
use lib.ListN.{take, get_or}
use Rattle.procap.specs.Procaps.{request_of}
use Rattle.procap.specs.Writable.{RequestInForm}
use Rattle.procap.proofs.Indices.{all_from}
use Rattle.bl.specs.Accepting.{AreBytes}
use Rattle.from_c.specs.Packing.{number_in, length_in}
use Rattle.demands.specs.Gives.{DoorGives, OfficeVerifyGives, OfficeDirectGives}
use Rattle.kept.proofs.Fronts.{blank, room}
use Rattle.demands.proofs.InNumbers.{opens_with_0_exactly_where_direct_has_0, refused_has_0_nowhere}

-- Numbers of eight bits each are bytes, and three numbers of sixteen bits are the names of a request.
pub are_bytes : (bytes : List ℕ) → ((i : ℕ) → Fits w8 (get_or bytes i 0)) → AreBytes bytes
are_bytes bytes fit = all_from (λ b. b < 256) 0 bytes (λ i _. omega (arith, fit i))

pub are_names : (who what right : ℕ) → Fits w16 who → Fits w16 what → Fits w16 right → RequestInForm (request_of who what right)
are_names who what right a b c = record { who_in_range = omega arith; what_in_range = omega arith; right_in_range = omega arith }

-- What verify and the direct check handed back for a request, with the number of the direct check's answer.
pub record Called (who what right : ℕ) (records buffer pairs proof : List ℕ) (moment : ℕ) (state : List ℕ) (issued : ℕ) (after : List ℕ) (checked found : ℕ) : Type 0 where
  pub names : RequestInForm (request_of who what right)
  pub buffer_is_bytes : AreBytes buffer
  pub proof_is_bytes : AreBytes proof
  pub state_is_bytes : AreBytes state
  pub verifies : OfficeVerifyGives (request_of who what right) records buffer pairs proof blank issued after
  pub checks : OfficeDirectGives (request_of who what right) records buffer pairs proof moment state checked
  pub is_found : found ≡ number_in checked

module _ {who what right : ℕ} {records buffer pairs proof : List ℕ} {moment : ℕ} {state : List ℕ} {issued : ℕ} {after : List ℕ} {checked found : ℕ}
    (c : Called who what right records buffer pairs proof moment state issued after checked found) where
  -- Nothing is issued, and nothing is accepted.
  pub nothing_accepted : (number_in issued ≡ 0 → ⊥) → not (eqb found 0) ≡ true
  nothing_accepted other =
      let nowhere = refused_has_0_nowhere _ _ _ _ _ c.names c.buffer_is_bytes c.proof_is_bytes blank room _ _ c.verifies other in
      ap not (ne_eqb found 0 (λ zero. nowhere moment state c.state_is_bytes checked c.checks (sym c.is_found ∙ zero)))

  -- What is issued opens, and is accepted; or it does not open, and is not accepted.
  module _ (zero : number_in issued ≡ 0) {pressed : ℕ} (opens : DoorGives (take (length_in issued) after) (request_of who what right) moment state pressed) where
    alike : (pressed ≡ 0) ↔ (number_in checked ≡ 0)
    alike =
        opens_with_0_exactly_where_direct_has_0 _ _ _ _ _ c.names c.buffer_is_bytes c.proof_is_bytes blank room _ _ c.verifies zero moment state
        pressed opens checked c.checks

    pub both_or_neither : beq (eqb found 0) (eqb pressed 0) ≡ true
    both_or_neither =
        elim (dec_le pressed 0) [
          | yes h ↦
              let opened : pressed ≡ 0 = omega arith in
              rw (eq-eqb pressed 0 opened, eq-eqb found 0 (c.is_found ∙ alike.0 opened)) refl
          | no n ↦
              let shut : pressed ≡ 0 → ⊥ = λ e. omega (arith, n, e) in
              rw (ne_eqb pressed 0 shut, ne_eqb found 0 (λ e. shut (alike.1 (sym c.is_found ∙ e)))) refl
        ]
