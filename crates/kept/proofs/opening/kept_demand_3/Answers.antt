-- The three names are names and the lent slices bytes, so the demand in numbers holds of what verify, the direct check and the door handed
-- back.
use mathlib.Core.Path.{◌≡◌, sym, ◌∙◌}
use Prim.Native.Nat.{◌≤◌}
use native.Mathlib.Omega.{arith}
use lib.ListN.{length}
use lib.Seq.{length-take-le}
use Rattle.from_c.specs.Packing.{number_in}
use Rattle.demands.proofs.FromC.{told_is_short, verifying_is_short}
use Rattle.kept.proofs.Pressed.{are_bytes, are_names, Called, nothing_accepted, both_or_neither}
use Rattle.kept.proofs.opening.kept_demand_3.Goals as goal
use Rattle.kept.proofs.opening.kept_demand_3.Goals.{After-number_in-accepted, After-length_in-length, After-procap_door-pressed}

-- What the calls handed back, for names and bytes.
called : (c : After-number_in-accepted)
    → Called c.args.who c.args.what c.args.right c.args.records.now c.args.buffer.now c.args.pairs.now c.args.proof.now c.args.moment c.args.state.now
    c.office_verify-issued.result c.office_verify-issued.new.out c.office_direct-checked.result c.number_in-accepted.result
called c = record {
  names = are_names _ _ _ c.ranges.who c.ranges.what c.ranges.right;
  buffer_is_bytes = are_bytes _ c.type_inv.buffer;
  proof_is_bytes = are_bytes _ c.type_inv.proof;
  state_is_bytes = are_bytes _ c.type_inv.state;
  verifies = (c.office_verify-issued.ensures.answer, c.office_verify-issued.ensures.buffer);
  checks = c.office_direct-checked.ensures;
  is_found = c.number_in-accepted.ensures;
}

-- No more is told than the room that was lent has.
short : (c : After-length_in-length) → c.length_in-length.result ≤ length c.office_verify-issued.new.out
short c =
    let verified = c.office_verify-issued.ensures in
    omega (arith, c.length_in-length.ensures, told_is_short _ _ _ _ (verified.answer, verified.buffer) (verifying_is_short _ _ _ _ _ _))

-- Where the door was asked, verify's number was 0.
issued : (c : After-procap_door-pressed) → number_in c.office_verify-issued.result ≡ 0
issued c = sym c.number_in.ensures ∙ c.if-number_in-ne0.false

pub returns-then-number_in-ne0 : goal.returns-then-number_in-ne0
returns-then-number_in-ne0 c =
    nothing_accepted (called (goal.at.returns-then-number_in-ne0 c).After-number_in-accepted)
    (λ zero. c.if-number_in-ne0.true (c.number_in.ensures ∙ zero))

pub slice_bounds-text-end : goal.slice_bounds-text-end
slice_bounds-text-end c = short (goal.at.slice_bounds-text-end c).After-length_in-length

pub slice_bounds-procap_door-end : goal.slice_bounds-procap_door-end
slice_bounds-procap_door-end c = sym (length-take-le _ _ (short (goal.at.slice_bounds-procap_door-end c).After-length_in-length))

pub returns : goal.returns
returns c =
    let at = goal.at.returns c in
    both_or_neither (called at.After-number_in-accepted) (issued at.After-procap_door-pressed) (rw c.length_in-length.ensures at c.procap_door-pressed.ensures)
