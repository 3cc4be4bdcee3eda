-- What the office's calls for C come to, where the call that they begin with is refused, and where the writer goes on from it.
use Prim.Native.Nat.{ℕ}
use mathlib.Core.Path.{◌≡◌, sym, ap, ◌∙◌}
use mathlib.Core.List.{List}
use lib.ListN.{length, take}
use Rattle.std.specs.Prelude.{Err}
use Rattle.procap.specs.Outcome.{answer_of, procap_handed}
use Rattle.procap.specs.declared.answer.Answer.{Answer}
use Rattle.procap.specs.declared.answer.Answer.TheVariants.{Granted, ProcapMalformed}
use Rattle.procap.specs.declared.procap.Request.{Request}
use Rattle.procap.specs.declared.procap.Procap.{Procap}
use Rattle.bl.specs.declared.Certificate.{Certificate}
use Rattle.bl.specs.Calls.{verified, directly}
use Rattle.text.specs.Calls.{reading, writing}
use Rattle.verifier.specs.Verifying.{HandsOver}
use Rattle.verifier.specs.declared.verify.Verified.{Verified}
use Rattle.cases.proofs.Refusals.{verified_refuses, reading_refuses}
use Rattle.from_c.specs.Records.{lent_at_most, records_in}
use Rattle.from_c.specs.Pairs.{pairs_at_most, pair_numbers}
use Rattle.from_c.specs.Values.{value_bytes, value_of}
use Rattle.from_c.specs.Packing.{packed}
use Rattle.from_c.specs.Calls.{verifying, rewriting, value_writing}
use Rattle.from_c.proofs.TooMany.{verifies_the_same, checks_the_same}
use Rattle.from_c.proofs.ValuesRead.{value_goes_on, value_refused}
use Rattle.from_c.proofs.HandedBack.{stops_there, goes_on_with}

module _ (r : Request) (bytes buffer pairs proof : List ℕ) (lent : List Certificate) (numbers : List ℕ)
    (lent_on : lent ≡ take lent_at_most (records_in bytes)) (paired : numbers ≡ take pairs_at_most (pair_numbers pairs)) where
  -- What verify hands over for the records and the pairs that are lent on is what it comes to for all.
  pub hands_over_all : (v : Verified) → HandsOver (verified r lent buffer numbers proof) v → HandsOver (verified r (records_in bytes) buffer (pair_numbers pairs) proof) v
  hands_over_all v hands =
      let same : verified r lent buffer numbers proof ≡ verified r (records_in bytes) buffer (pair_numbers pairs) proof =
      rw (lent_on, paired) (verifies_the_same buffer (pair_numbers pairs) proof (records_in bytes) r) in
      rw same at hands

  -- What the direct check answers for them, packed, is what it answers for all.
  pub packs_for_all : (m : ℕ) (state : List ℕ) (answer : Answer) (number : ℕ) → number ≡ packed answer 0
      → answer ≡ answer_of (directly r lent buffer numbers proof m state)
      → number ≡ packed (answer_of (directly r (records_in bytes) buffer (pair_numbers pairs) proof m state)) 0
  packs_for_all m state answer number packs answers =
      let same : directly r lent buffer numbers proof m state ≡ directly r (records_in bytes) buffer (pair_numbers pairs) proof m state =
      rw (lent_on, paired) (checks_the_same buffer (pair_numbers pairs) proof (records_in bytes) r m state) in
      packs ∙ ap (λ a. packed a 0) (answers ∙ ap answer_of same)

module _ (r : Request) (bytes buffer pairs proof : List ℕ) (room : ℕ) (v : Verified)
    (hands : HandsOver (verified r (records_in bytes) buffer (pair_numbers pairs) proof) v) where
  -- Verify refuses, and no text is written.
  pub verifying_stops : (v.answer ≡ Granted → ⊥) → verifying r bytes buffer pairs proof room ≡ Err v.answer
  unfolding verifying
  verifying_stops other = stops_there _ v.answer hands.answer _ other

  -- Verify issues a procap, and its text is written.
  pub verifying_writes : v.answer ≡ Granted → verifying r bytes buffer pairs proof room ≡ writing v.procap room
  unfolding verifying
  verifying_writes granted =
      goes_on_with _ v.answer hands.answer (λ p. writing p room) (verified_refuses r (records_in bytes) buffer (pair_numbers pairs) proof) granted v.procap hands.procap

module _ (text : List ℕ) (room : ℕ) (answer : Answer) (given : answer ≡ answer_of (reading text)) where
  -- Bytes that are no text: nothing is written.
  pub rewriting_stops : (answer ≡ Granted → ⊥) → rewriting text room ≡ Err answer
  unfolding rewriting
  rewriting_stops other = stops_there _ answer given _ other

  -- The procap that the text says is written.
  pub rewriting_writes : answer ≡ Granted → (p : Procap) → p ≡ procap_handed (reading text) → rewriting text room ≡ writing p room
  unfolding rewriting
  rewriting_writes granted p handed = goes_on_with _ answer given (λ q. writing q room) (reading_refuses text) granted p handed

module _ (bytes : List ℕ) (room : ℕ) where
  -- Bytes that are no value: nothing is written.
  pub value_writing_stops : (length bytes ≡ value_bytes → ⊥) → value_writing bytes room ≡ Err ProcapMalformed
  unfolding value_writing
  value_writing_stops = value_refused bytes _

  -- The value that the bytes are is written.
  pub value_writing_writes : length bytes ≡ value_bytes → (p : Procap) → p ≡ value_of bytes → value_writing bytes room ≡ writing p room
  unfolding value_writing
  value_writing_writes as_many p is = value_goes_on bytes _ as_many ∙ ap (λ q. writing q room) (sym is)
