-- Bytes are a value exactly when there are so many of them.
use Prim.Native.Nat.{ℕ}
use mathlib.Core.Path.{◌≡◌, refl}
use mathlib.Core.List.{List}
use borrow.Author.Tests.{eq-eqb, ne_eqb}
use lib.ListN.{length}
use Rattle.std.specs.Prelude.{Err, Ok}
use Rattle.procap.specs.Outcome.{Outcome, go_on}
use Rattle.procap.specs.declared.answer.Answer.TheVariants.{ProcapMalformed}
use Rattle.procap.specs.declared.procap.Procap.{Procap}
use Rattle.procap.proofs.Granted.{goes_on}
use Rattle.from_c.specs.Values.{value_bytes, value_of, value_in}

module _ (bytes : List ℕ) where
  a_value : length bytes ≡ value_bytes → value_in bytes ≡ Ok (value_of bytes)
  unfolding value_in
  a_value e = rw (eq-eqb (length bytes) value_bytes e) refl

  no_value : (length bytes ≡ value_bytes → ⊥) → value_in bytes ≡ Err ProcapMalformed
  unfolding value_in
  no_value n = rw (ne_eqb (length bytes) value_bytes n) refl

  -- What goes on from a value goes on, and from none it is refused.
  module _ {B : Type 0} (f : Procap → Outcome B) where
    pub value_goes_on : length bytes ≡ value_bytes → go_on (value_in bytes) f ≡ f (value_of bytes)
    value_goes_on e = goes_on (value_in bytes) f (value_of bytes) (a_value e)

    pub value_refused : (length bytes ≡ value_bytes → ⊥) → go_on (value_in bytes) f ≡ Err ProcapMalformed
    unfolding go_on
    value_refused n = rw (no_value n) refl
