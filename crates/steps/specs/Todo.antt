-- A proof's bytes tested without a call inside of a call: a list of what is still to be read. The first of the list is opened at its place, and its parts take its place in the list.
use Rattle.std.specs.Prelude.{ℕ, ◌≡◌, List, [], ◌∷◌, set, ltb, Option, Some, option_map}
use Rattle.procap.specs.Bytes.{Reader, ◌>>=◌, give, present, ensure, byte, term}
use Rattle.bl.specs.declared.InferTag.{InferTag}
use Rattle.bl.specs.declared.InferTag.TheVariants.{LocalTag, CertificateTag, FirstTag, SecondTag, ApplyTag, InstanceTag}
use Rattle.bl.specs.declared.CheckTag.{CheckTag}
use Rattle.bl.specs.declared.CheckTag.TheVariants.{PairTag, TopStepTag, AtInTag, AtOutTag, SaysInTag, SaysOutTag, StateTag, OrderStepTag, OrLeftTag, OrRightTag, OrOutTag, FalsityOutTag, InferredTag}
use Rattle.bl.specs.Tags.{infer_tag, check_tag}
use Rattle.bl.specs.Steps.{time}
use Rattle.procap.specs.Lent.{Lent, LentToWrite}
use Rattle.steps.specs.Ends.{slot}
use Rattle.steps.specs.Rooms.{Room, inner, assuming}
use Rattle.steps.specs.declared.todo.Source.{Source}
use Rattle.steps.specs.declared.todo.Todo.{Todo}
use Rattle.steps.specs.declared.todo.Todo.TheVariants.{Times, Inferring, Checking, Second, Both}
use Rattle.steps.specs.declared.todo.Opened.{Opened}
use Rattle.steps.specs.declared.todo.Opened.TheVariants.{Leaf, One, Two}

-- How many steps 2C a tag is, and what it leaves to be read.
abbrev pub Parts : Type 0
Parts = ℕ × List Todo

module _ (proof : List ℕ) where
  -- An index below a limit.
  unfoldable pub index_parts : ℕ → Reader Parts
  index_parts limit = do
    i ← byte proof
    _ ← ensure (ltb i limit)
    give (0, [])

  -- Over so many certificates.
  module _ (c : ℕ) where
    -- One time, and two.
    unfoldable pub time_parts : Reader Parts
    time_parts = do
      _ ← time proof c
      give (0, [])

    unfoldable pub times_parts : Reader Parts
    times_parts = do
      _ ← time proof c
      time_parts

    -- A step by its tag, over parts that have so much room.
    module _ (room : Room) where
      unfoldable pub inferring_parts : InferTag → Reader Parts
      inferring_parts LocalTag = index_parts room.assumptions
      inferring_parts CertificateTag = index_parts c
      inferring_parts FirstTag = give (0, Inferring room ∷ [])
      inferring_parts SecondTag = give (0, Inferring room ∷ [])
      inferring_parts ApplyTag = give (0, Inferring room ∷ Second room ∷ [])
      inferring_parts InstanceTag = do
        _ ← term proof
        give (0, Inferring room ∷ [])

      unfoldable pub checking_parts : CheckTag → Reader Parts
      checking_parts PairTag = give (0, Checking room ∷ Checking room ∷ [])
      checking_parts TopStepTag = give (0, [])
      checking_parts AtInTag = give (0, Checking room ∷ [])
      checking_parts AtOutTag = give (0, Inferring room ∷ Checking (assuming room) ∷ [])
      checking_parts SaysInTag = give (0, Checking room ∷ [])
      checking_parts SaysOutTag = give (0, Inferring room ∷ Checking (assuming room) ∷ [])
      checking_parts StateTag = give (1, [])
      checking_parts OrderStepTag = give (0, [])
      checking_parts OrLeftTag = give (0, Checking room ∷ [])
      checking_parts OrRightTag = give (0, Checking room ∷ [])
      checking_parts OrOutTag = give (0, Inferring room ∷ Both (assuming room) ∷ [])
      checking_parts FalsityOutTag = give (0, Inferring room ∷ [])
      checking_parts (InferredTag tag) = inferring_parts tag

    -- What is to be read, opened at its place.
    unfoldable pub parts : Todo → Reader Parts
    parts (Times begin) = times_parts
    parts (Inferring room) = do
      less ← present (inner room)
      b ← byte proof
      tag ← present (infer_tag b)
      inferring_parts less tag
    parts (Checking room) = do
      less ← present (inner room)
      b ← byte proof
      tag ← present (check_tag b)
      checking_parts less tag
    parts (Second room) = λ at. Some ((0, Checking room ∷ Times at ∷ []), at)
    parts (Both room) = give (0, Checking room ∷ Checking room ∷ [])

-- The table after what is to be read at a place has been opened there.
unfoldable pub noted : Todo → ℕ → List ℕ → List ℕ
noted (Times begin) at ends = set ends (slot begin) at
noted (Inferring room) at ends = ends
noted (Checking room) at ends = ends
noted (Second room) at ends = ends
noted (Both room) at ends = ends

-- ── As the code has it ──

-- What the code hands back of what it opened, and the place after it.
unfoldable pub left : Opened → Parts × ℕ
left (Leaf next states) = ((states, []), next)
left (One next t) = ((0, t ∷ []), next)
left (Two next t u) = ((0, t ∷ u ∷ []), next)

module _ (proof : Lent) where
  -- What is opened leaves what the pages above say.
  abbrev pub OpensIndex : ℕ → ℕ → Option Opened → Type 0
  OpensIndex limit at r = option_map left r ≡ index_parts proof.entry.now limit at

  abbrev pub OpensTimes : ℕ → Option Opened → Type 0
  OpensTimes at r = (c : ℕ) → option_map left r ≡ times_parts proof.entry.now c at

module _ (source : Source) where
  abbrev pub OpensInferring : Room → InferTag → ℕ → Option Opened → Type 0
  OpensInferring room tag at r = option_map left r ≡ inferring_parts source.proof.now source.certificates room tag at

  abbrev pub OpensChecking : Room → ℕ → Option Opened → Type 0
  OpensChecking room at r = option_map left r ≡ parts source.proof.now source.certificates (Checking room) at

  abbrev pub Opens : Todo → ℕ → Option Opened → Type 0
  Opens todo at r = option_map left r ≡ parts source.proof.now source.certificates todo at

-- The table at the exit.
abbrev pub Noted : LentToWrite → Todo → ℕ → Type 0
Noted ends todo at = ends.exit.now ≡ noted todo at ends.entry.now
