-- The byte at the next place; past the end there is none.
use Prim.Native.Nat.{ℕ, ◌+◌, ◌≤◌, ◌<◌}
use mathlib.Core.Path.{◌≡◌, refl, sym, ◌∙◌}
use mathlib.Core.List.{List}
use Rattle.std.proofs.lemmas.Option.{unwrap_or-slice_get}
use native.Mathlib.Decide.{dec_lt}
use native.Mathlib.Omega.{arith}
use lib.ListN.{length, get_or, get_or-eq_default}
use Rattle.steps.proofs.reader.index_at.Goals as goal

-- Past the end the place stays, and there is no byte there nor after it.
same_byte : (bytes : List ℕ) (at next : ℕ) → (at < length bytes → next ≡ at + 1) → (length bytes ≤ at → next ≡ at) → get_or bytes next 0 ≡ get_or bytes (at + 1) 0
same_byte bytes at next there stays = by (dec_lt at (length bytes))
  where
    by : Dec (at < length bytes) → get_or bytes next 0 ≡ get_or bytes (at + 1) 0
    by (yes l) = rw (there l) refl
    by (no m) =
        let past : length bytes ≤ at = omega arith in
        let later : length bytes ≤ at + 1 = omega arith in
        rw (stays past) (get_or-eq_default bytes 0 past ∙ sym (get_or-eq_default bytes 0 later))

pub returns : goal.returns
returns c =
    c.unwrap_or.ensures
    ∙ (rw (c.byte.ensures, c.past.ensures.same) (unwrap_or-slice_get c.args.proof.now c.past.result.at 0))
    ∙ same_byte c.args.proof.now c.args.at c.past.result.at c.past.ensures.there c.past.ensures.stays
