-- Too many records stay too many where only the first 33 of them are lent on: 33 or fewer are all there, and of more the first 33 are
-- refused like them, since 32 is the most. It is the same with pairs, of which 129 are lent on. So verify and the direct check
-- answer the same.
use Prim.Native.Nat.{ℕ, suc, ◌≤◌, ◌<◌}
use mathlib.Core.Path.{◌≡◌, refl, sym, ap, ◌∙◌}
use mathlib.Core.List.{List}
use native.Mathlib.Decide.{dec_le}
use native.Mathlib.Omega.{arith}
use lib.ListN.{length, take}
use lib.Seq.{length-take-le, take_all}
use borrow.Author.Tests.{lt-leb}
use Rattle.std.specs.Prelude.{Err}
use Rattle.procap.specs.Outcome.{go_on}
use Rattle.procap.specs.declared.answer.Answer.TheVariants.{CertificateMalformed}
use Rattle.procap.specs.declared.procap.Request.{Request}
use Rattle.bl.specs.declared.Certificate.{Certificate}
use Rattle.bl.specs.Certificates.{most_certificates, statements}
use Rattle.bl.specs.Strength.{most_pairs, pairs_in}
use Rattle.bl.specs.Policy.{policy_in}
use Rattle.bl.specs.Calls.{read_case, verified, directly}
use Rattle.bl.proofs.Called.{too_many_pairs}
use Rattle.from_c.specs.Records.{lent_at_most}
use Rattle.from_c.specs.Pairs.{pairs_at_most}

-- Where all lists of more than `most` come to the same, a list comes to what its first `most + 1` come to.
lent_the_same : {A O : Type 0} (f : List A → O) (most : ℕ) (many : O) → ((xs : List A) → most < length xs → f xs ≡ many)
    → (xs : List A) → f (take (suc most) xs) ≡ f xs
lent_the_same f most many same xs = by (dec_le (length xs) (suc most))
  where
    by : Dec (length xs ≤ suc most) → f (take (suc most) xs) ≡ f xs
    by (yes few) = ap f (take_all (suc most) xs few)
    by (no more) =
        let lent = length-take-le (suc most) xs (omega arith) in
        same (take (suc most) xs) (omega arith) ∙ sym (same xs (omega arith))

module _ (buffer pairs proof : List ℕ) where
  -- More records than are taken are refused, before any of them is looked at.
  too_many : (records : List Certificate) → most_certificates < length records → read_case records buffer pairs proof ≡ Err (CertificateMalformed 0)
  unfolding read_case policy_in statements go_on
  too_many records many = rw (lt-leb (length records) most_certificates many) refl

  module _ (records : List Certificate) where
    -- The records and the pairs that are lent on read as all of them do.
    reads_the_same : read_case (take lent_at_most records) buffer (take pairs_at_most pairs) proof ≡ read_case records buffer pairs proof
    unfolding read_case policy_in
    reads_the_same =
        rw (lent_the_same pairs_in most_pairs _ too_many_pairs pairs)
        (lent_the_same (λ rs. read_case rs buffer pairs proof) most_certificates _ too_many records)

    -- So verify answers them as it answers all.
    pub verifies_the_same : (r : Request) → verified r (take lent_at_most records) buffer (take pairs_at_most pairs) proof ≡ verified r records buffer pairs proof
    unfolding verified
    verifies_the_same r = rw reads_the_same refl

    -- And so does the direct check.
    pub checks_the_same : (r : Request) (m : ℕ) (state : List ℕ)
        → directly r (take lent_at_most records) buffer (take pairs_at_most pairs) proof m state ≡ directly r records buffer pairs proof m state
    unfolding directly
    checks_the_same r m state = rw reads_the_same refl
