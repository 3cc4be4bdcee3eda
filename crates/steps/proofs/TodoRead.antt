-- All that is still to be read, read: the first of it opened, and its parts put before the rest, reads the same.
use Prim.Native.Nat.{ℕ, zero, suc, ◌+◌}
use mathlib.Core.Path.{◌≡◌, refl, ap}
use mathlib.Core.List.{List, [], ◌∷◌, ◌++◌}
use Rattle.std.specs.Prelude.{None, Option, Some}
use native.Mathlib.Nat.{add-zero, add_assoc}
use lib.ListN.{set}
use Rattle.procap.specs.Bytes.{Reader, then, give, present, byte}
use Rattle.bl.specs.declared.InferTag.{InferTag}
use Rattle.bl.specs.declared.InferTag.TheVariants.{LocalTag, CertificateTag, FirstTag, SecondTag, ApplyTag, InstanceTag}
use Rattle.bl.specs.declared.CheckTag.{CheckTag}
use Rattle.bl.specs.declared.CheckTag.TheVariants.{PairTag, TopStepTag, AtInTag, AtOutTag, SaysInTag, SaysOutTag, StateTag, OrderStepTag, OrLeftTag, OrRightTag, OrOutTag, FalsityOutTag, InferredTag}
use Rattle.bl.specs.Tags.{infer_tag, check_tag}
use Rattle.procap.specs.declared.time.Time.{Time}
use Rattle.bl.specs.Trees.{Infer, apply, Check, states, states_inferring}
use Rattle.bl.specs.Steps.{time, infer_by, check_by, infer_step, check_step}
use Rattle.steps.specs.Ends.{slot, place, past}
use Rattle.steps.specs.Rooms.{Room}
use Rattle.steps.specs.Todo.{Parts, index_parts, time_parts, times_parts, inferring_parts, checking_parts, parts, noted}
use Rattle.steps.specs.declared.todo.Todo.{Todo}
use Rattle.steps.specs.declared.todo.Todo.TheVariants.{Times, Inferring, Checking, Second, Both}
use Rattle.steps.proofs.Marks.{marked, marked_both}
use Rattle.steps.proofs.StepPlaces.{marks_inferring, marks_checking, ends_there}

-- ── Readers in a row ──

in_turn : {A B C : Type 0} (o : Option (A × ℕ)) (f : A → Reader B) (g : B → Reader C) → then (then o f) g ≡ then o (λ a e. then (f a e) g)
unfolding then
in_turn None f g = refl
in_turn (Some r) f g = refl

-- Two that go on alike from what is read.
alike : {A B : Type 0} (o : Option (A × ℕ)) (f g : A → Reader B) → ((a : A) (e : ℕ) → o ≡ Some (a, e) → f a e ≡ g a e) → then o f ≡ then o g
unfolding then
alike None f g h = refl
alike (Some r) f g h = h r.0 r.1 refl

-- ── What is found ──

-- How many steps 2C, and the table.
abbrev pub Found : Type 0
Found = ℕ × List ℕ

module _ (proof : List ℕ) (c : ℕ) where
  unfoldable pub after_inferring : Infer → Found → Found
  after_inferring M s = (s.0 + states_inferring M, marked s.1 (marks_inferring M))

  unfoldable pub after_checking : Check → Found → Found
  after_checking N s = (s.0 + states N, marked s.1 (marks_checking N))

  -- The two times of the 26 whose second part began at a place.
  unfoldable pub times_read : ℕ → Found → Reader Found
  times_read begin s at = then (time proof c at) λ _ b. then (time proof c b) λ _. give (s.0, set s.1 (slot begin) at)

  unfoldable pub todo_read : Todo → Found → Reader Found
  todo_read (Times begin) s at = times_read begin s at
  todo_read (Inferring r) s at = then (infer_step proof c r.levels r.assumptions at) λ M. give (after_inferring M s)
  todo_read (Checking r) s at = then (check_step proof c r.levels r.assumptions at) λ N. give (after_checking N s)
  todo_read (Second r) s at = then (check_step proof c r.levels r.assumptions at) λ N. times_read at (after_checking N s)
  todo_read (Both r) s at =
      then (check_step proof c r.levels r.assumptions at) λ N b. then (check_step proof c r.levels r.assumptions b) λ O. give (after_checking O (after_checking N s))

  -- One thing after another.
  unfoldable pub all_read : List Todo → Found → Reader Found
  all_read [] s = give s
  all_read (t ∷ ts) s = λ at. then (todo_read t s at) (λ found. all_read ts found)

  module _ (ts : List Todo) (s : Found) where
    -- From what was opened.
    abbrev on : Parts → Reader Found
    on x = all_read (x.1 ++ ts) (s.0 + x.0, s.1)

    -- Both parts of a 26, and the mark of the second.
    apply_found : (q m a : ℕ) (M1 : Infer) (M2 : Check) (t1 t2 : Time) → (place M2 ≡ m) × (past M2 ≡ a)
        → (let found = after_checking M2 (after_inferring M1 s) in
        ◌≡◌ {A = Found} (found.0, set found.1 (slot m) a) (after_inferring (apply q M1 M2 t1 t2) s))
    unfolding after_inferring after_checking states_inferring marks_inferring marked
    apply_found q m a M1 M2 t1 t2 there = simp (marked_both, add_assoc) (rw (there.1, there.0) refl)

    inferring_first : (r : Room) (q at : ℕ) (tag : InferTag)
        → then (inferring_parts proof c r tag at) on
        ≡ then (infer_by proof c (infer_step proof c r.levels) (check_step proof c r.levels) r.assumptions q tag at) (λ M. all_read ts (after_inferring M s))
    unfolding inferring_parts index_parts infer_by all_read todo_read times_read after_inferring after_checking states_inferring marks_inferring marked then
    inferring_first r q at LocalTag = simp (in_turn, add-zero)
    inferring_first r q at CertificateTag = simp (in_turn, add-zero)
    inferring_first r q at FirstTag = simp (in_turn, add-zero)
    inferring_first r q at SecondTag = simp (in_turn, add-zero)
    inferring_first r q at ApplyTag =
        simp (in_turn, add-zero)
        (alike (infer_step proof c r.levels r.assumptions at) _ _ λ M1 m r1.
        alike (check_step proof c r.levels r.assumptions m) _ _ λ M2 a r2.
        alike (time proof c a) _ _ λ t1 b r3.
        alike (time proof c b) _ _ λ t2 e r4.
        ap (λ x. all_read ts x e) (apply_found q m a M1 M2 t1 t2 (ends_there proof c r.levels r.assumptions m M2 a r2)))
    inferring_first r q at InstanceTag = simp (in_turn, add-zero)

    checking_first : (r : Room) (q at : ℕ) (tag : CheckTag)
        → then (checking_parts proof c r tag at) on
        ≡ then (check_by proof c (infer_step proof c r.levels) (check_step proof c r.levels) r.assumptions q tag at) (λ N. all_read ts (after_checking N s))
    unfolding checking_parts check_by all_read todo_read after_inferring after_checking states marks_checking marked then
    checking_first r q at PairTag = simp (in_turn, add-zero, add_assoc, marked_both)
    checking_first r q at TopStepTag = simp add-zero
    checking_first r q at AtInTag = simp (in_turn, add-zero)
    checking_first r q at AtOutTag = simp (in_turn, add-zero, add_assoc, marked_both)
    checking_first r q at SaysInTag = simp (in_turn, add-zero)
    checking_first r q at SaysOutTag = simp (in_turn, add-zero, add_assoc, marked_both)
    checking_first r q at StateTag = refl
    checking_first r q at OrderStepTag = simp add-zero
    checking_first r q at OrLeftTag = simp (in_turn, add-zero)
    checking_first r q at OrRightTag = simp (in_turn, add-zero)
    checking_first r q at OrOutTag = simp (in_turn, add-zero, add_assoc, marked_both)
    checking_first r q at FalsityOutTag = simp (in_turn, add-zero)
    checking_first r q at (InferredTag tag) = simp in_turn (inferring_first r q at tag)

  -- What is opened first, and then all of it.
  abbrev First : List Todo → Found → ℕ → Todo → Type 0
  First ts s at t = then (parts proof c t at) (λ x. all_read (x.1 ++ ts) (s.0 + x.0, noted t at s.1)) ≡ all_read (t ∷ ts) s at

  inferring_opened : (ts : List Todo) (s : Found) (at n h : ℕ) → First ts s at (Inferring (record { levels = n; assumptions = h }))
  unfolding parts noted all_read todo_read infer_step then present
  inferring_opened ts s at zero h = refl
  inferring_opened ts s at (suc n) h =
      simp in_turn (alike (byte proof at) _ _ λ b e r. alike (present (infer_tag b) e) _ _ λ tag k p. inferring_first ts s (record { levels = n; assumptions = h }) at k tag)

  checking_opened : (ts : List Todo) (s : Found) (at n h : ℕ) → First ts s at (Checking (record { levels = n; assumptions = h }))
  unfolding parts noted all_read todo_read check_step then present
  checking_opened ts s at zero h = refl
  checking_opened ts s at (suc n) h =
      simp in_turn (alike (byte proof at) _ _ λ b e r. alike (present (check_tag b) e) _ _ λ tag k p. checking_first ts s (record { levels = n; assumptions = h }) at k tag)

  pub first_read : (t : Todo) (ts : List Todo) (s : Found) (at : ℕ) → First ts s at t
  unfolding parts times_parts time_parts noted all_read todo_read times_read then
  first_read (Times begin) ts s at = simp (in_turn, add-zero)
  first_read (Inferring r) ts s at = inferring_opened ts s at r.levels r.assumptions
  first_read (Checking r) ts s at = checking_opened ts s at r.levels r.assumptions
  first_read (Second r) ts s at = simp (in_turn, add-zero)
  first_read (Both r) ts s at = simp (in_turn, add-zero)

  -- One step that checks, alone: the proof's own reader.
  pub alone_read : (r : Room) (at : ℕ) (s : Found) → all_read (Checking r ∷ []) s at ≡ then (check_step proof c r.levels r.assumptions at) (λ N. give (after_checking N s))
  unfolding all_read todo_read then
  alone_read r at s = simp in_turn
