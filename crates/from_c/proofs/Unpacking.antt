-- What a caller takes out of the number that is handed back: number, length and place stand beside each other, each below the room that it
-- has.
use Prim.Native.Nat.{ℕ, ◌<◌}
use mathlib.Core.Path.{◌≡◌}
use native.Mathlib.Omega.{arith}
use Rattle.procap.specs.Answers.{number_of, place_of}
use Rattle.procap.specs.declared.answer.Answer.{Answer}
use Rattle.from_c.specs.Packing.{lengths, places, packed, number_in, length_in, place_in}

module _ (answer : Answer) (length : ℕ) where
  -- The number is the answer's own.
  pub unpacked_number : number_in (packed answer length) ≡ number_of answer
  unpacked_number = omega arith

  -- So is the length, where it has 16 bits, and the place, where it has 32.
  pub unpacked_length : length < lengths → length_in (packed answer length) ≡ length
  unpacked_length short = omega arith

  pub unpacked_place : place_of answer < places → place_in (packed answer length) ≡ place_of answer
  unpacked_place small = omega arith
