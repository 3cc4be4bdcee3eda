-- An issued procap at the door: it can be written and names the request that it was issued for, so the door passes on to whether it
-- is satisfied, and that is so exactly where the direct check accepts.
use Prim.Native.Nat.{ℕ, ◌≤◌}
use mathlib.Core.Path.{◌≡◌, refl, sym, ◌∙◌}
use mathlib.Core.List.{List}
use Rattle.std.specs.Prelude.{Ok, Some}
use mathlib.Core.Logic.{◌↔◌}
use native.Mathlib.Omega.{arith}
use Rattle.procap.specs.Times.{latest}
use Rattle.procap.specs.Facts.{Spelled}
use Rattle.procap.specs.Procaps.{procap_of}
use Rattle.procap.specs.Writable.{RequestInForm}
use Rattle.procap.specs.States.{stated}
use Rattle.procap.specs.declared.procap.Request.{Request}
use Rattle.procap.specs.declared.procap.Procap.{Procap}
use Rattle.procap.proofs.Granted.{goes_on}
use Rattle.bl.specs.declared.Certificate.{Certificate}
use Rattle.bl.specs.Calls.{verified, directly}
use Rattle.bl.specs.Accepting.{AreBytes}
use Rattle.bl.proofs.Called.{verified_from}
use Rattle.bl.proofs.Theorems.{direct_accepts_exactly_derivations, issued_opens_exactly_where_direct_accepts, issued_can_be_written}
use Rattle.text.specs.Text.{text_of}
use Rattle.text.specs.Buffers.{most_text}
use Rattle.text.specs.Calls.{reading, writing}
use Rattle.text.proofs.Longest.{at_most_1223}
use Rattle.text.proofs.Written.{is_written}
use Rattle.text.proofs.Theorems.{written_is_read}
use Rattle.door.specs.Door.{opening, opening_text}
use Rattle.door.proofs.Opening.{opens_exactly}

module _ (r : Request) (records : List Certificate) (buffer pairs proof : List ℕ) (names : RequestInForm r) (in_bytes : AreBytes buffer) (proof_in_bytes : AreBytes proof) where
  -- An issued procap is for the request that was asked.
  for_its_request : (p : Procap) → verified r records buffer pairs proof ≡ Ok p → r ≡ p.request
  unfolding procap_of
  for_its_request p e = verified_from r records buffer pairs proof p e λ _ _ _ _ _ _ same. rw same refl

  -- The door opens to an issued procap, shown for its own request, exactly where the direct check accepts the same proof.
  pub issued_opens_the_door_exactly_where_direct_accepts : (p : Procap) → verified r records buffer pairs proof ≡ Ok p
      → (m : ℕ) → m ≤ latest → (state : List ℕ) (σ : List Spelled) → stated state ≡ Some σ
      → (opening p r m state ≡ Ok tt) ↔ (directly r records buffer pairs proof m state ≡ Ok tt)
  issued_opens_the_door_exactly_where_direct_accepts p e m in_range state σ reads =
      let by_the_rules = issued_opens_exactly_where_direct_accepts r records buffer pairs proof p e m in_range state in
      let at_the_door = opens_exactly p r m state in (
        λ d. let o = at_the_door.0 d in (by_the_rules o.facts o.state_reads).0 o.satisfied,
        λ a.
            at_the_door.1 (record {
              can_be_written = issued_can_be_written r records buffer pairs proof names in_bytes proof_in_bytes p e;
              moment_in_range = in_range;
              facts = σ;
              state_reads = reads;
              own_request = for_its_request p e;
              satisfied = (by_the_rules σ reads).1 a;
            }),
      )

  -- An issued procap is written as a text into every buffer with room for 1,223 bytes.
  pub issued_is_written : (p : Procap) → verified r records buffer pairs proof ≡ Ok p → (room : ℕ) → most_text ≤ room
      → writing p room ≡ Ok (text_of p)
  issued_is_written p e room fits =
      let w = issued_can_be_written r records buffer pairs proof names in_bytes proof_in_bytes p e in
      is_written p room w (omega (arith, at_most_1223 p w))

  -- So the door opens to the text that is written of it exactly where the direct check accepts.
  pub its_text_opens_the_door_exactly_where_direct_accepts : (p : Procap) → verified r records buffer pairs proof ≡ Ok p
      → (room : ℕ) (text : List ℕ) → writing p room ≡ Ok text
      → (m : ℕ) → m ≤ latest → (state : List ℕ) (σ : List Spelled) → stated state ≡ Some σ
      → (opening_text text r m state ≡ Ok tt) ↔ (directly r records buffer pairs proof m state ≡ Ok tt)
  unfolding opening_text
  its_text_opens_the_door_exactly_where_direct_accepts p e room text written m in_range state σ reads =
      let same = goes_on (reading text) (λ q. opening q r m state) p (written_is_read p room text written) in
      rw same (issued_opens_the_door_exactly_where_direct_accepts p e m in_range state σ reads)

  -- It does so at every press, whatever the moment and the state: where the moment is out of range, or the state malformed, both refuse.
  pub its_text_opens_the_door_at_the_same_presses : (p : Procap) → verified r records buffer pairs proof ≡ Ok p
      → (room : ℕ) (text : List ℕ) → writing p room ≡ Ok text → (m : ℕ) (state : List ℕ)
      → (opening_text text r m state ≡ Ok tt) ↔ (directly r records buffer pairs proof m state ≡ Ok tt)
  unfolding opening_text
  its_text_opens_the_door_at_the_same_presses p e room text written m state =
      let same = goes_on (reading text) (λ q. opening q r m state) p (written_is_read p room text written) in
      let law = its_text_opens_the_door_exactly_where_direct_accepts p e room text written m in (
        λ opens. let o = (opens_exactly p r m state).0 (sym same ∙ opens) in (law o.moment_in_range state o.facts o.state_reads).0 opens,
        λ accepts.
            let d = (direct_accepts_exactly_derivations r records buffer pairs proof m state).0 accepts in
            (law d.moment_in_range state d.facts d.state_reads).1 accepts,
      )
