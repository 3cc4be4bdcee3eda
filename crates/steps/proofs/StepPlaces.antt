-- Where a step that is read begins and ends, and that the second parts in it begin at least three bytes apart: by induction over the levels.
-- A step that infers has two bytes at least, one that checks one; before its second part a 26 has a tag and a step that infers, after it two times.
use Prim.Native.Nat.{ℕ, zero, suc, ◌+◌, ◌≤◌}
use mathlib.Core.Bool.{Bool, true, false}
use mathlib.Core.Path.{◌≡◌, refl, sym, ◌∙◌}
use mathlib.Core.List.{List, [], ◌∷◌, ◌++◌}
use Rattle.std.specs.Prelude.{None, Option, Some}
use native.Mathlib.Omega.{arith}
use borrow.Author.Tests.{leb-true}
use lib.ListN.{length, get_or, take, drop}
use lib.Dec.{leb}
use Rattle.procap.specs.Tells.{pick}
use Rattle.procap.specs.Bytes.{Reader, next, number, term_by, term, term_tag}
use Rattle.procap.specs.declared.tag.TermTag.{TermTag}
use Rattle.procap.specs.declared.tag.TermTag.TheVariants.{NameTag, MomentTag, MinusInfinityTag, PlusInfinityTag, CtimeTag, VariableTag}
use Rattle.procap.specs.declared.time.Time.{Time}
use Rattle.procap.specs.declared.time.Time.TheVariants.{Moment, MinusInfinity, PlusInfinity, Ctime}
use Rattle.procap.specs.declared.fact.Term.{Term}
use Rattle.procap.specs.declared.fact.Term.TheVariants.{Name, When}
use Rattle.procap.proofs.Readers.{IfRead, read, unread, so_read, then_read, present_read, ensure_read}
use Rattle.bl.specs.declared.InferTag.{InferTag}
use Rattle.bl.specs.declared.InferTag.TheVariants.{LocalTag, CertificateTag, FirstTag, SecondTag, ApplyTag, InstanceTag}
use Rattle.bl.specs.declared.CheckTag.{CheckTag}
use Rattle.bl.specs.declared.CheckTag.TheVariants.{PairTag, TopStepTag, AtInTag, AtOutTag, SaysInTag, SaysOutTag, StateTag, OrderStepTag, OrLeftTag, OrRightTag, OrOutTag, FalsityOutTag, InferredTag}
use Rattle.bl.specs.Tags.{infer_tag, check_tag}
use Rattle.bl.specs.Trees.{Infer, local, certificate, first, second, apply, instance, Check, pair, trivial, at_in, at_out, says_in, says_out, state, compare, or_left, or_right, or_out, falsity_out, inferred, offset}
use Rattle.bl.specs.Steps.{only_time, time, infer_by, check_by, infer_step, check_step}
use Rattle.steps.specs.Ends.{time_bytes, term_bytes, bytes_inferring, bytes_checking, place, past, slot, EndTold, Told, ToldChecking}
use Rattle.steps.proofs.Marks.{Mark, Each, the_one, each_split, Has, Spread, no_marks, wider, both_parts, with_mark}

-- ── The marks of a step ──

-- The second parts of its steps 26, in the order in which they end.
unfoldable mutual
  pub marks_inferring : Infer → List Mark
  marks_inferring (local q i) = []
  marks_inferring (certificate q i) = []
  marks_inferring (first q M) = marks_inferring M
  marks_inferring (second q M) = marks_inferring M
  marks_inferring (apply q M1 M2 t1 t2) = marks_inferring M1 ++ (marks_checking M2 ++ ((place M2, past M2) ∷ []))
  marks_inferring (instance q t M) = marks_inferring M

  pub marks_checking : Check → List Mark
  marks_checking (pair q M1 M2) = marks_checking M1 ++ marks_checking M2
  marks_checking (trivial q) = []
  marks_checking (at_in q M) = marks_checking M
  marks_checking (at_out q M1 M2) = marks_inferring M1 ++ marks_checking M2
  marks_checking (says_in q M) = marks_checking M
  marks_checking (says_out q M1 M2) = marks_inferring M1 ++ marks_checking M2
  marks_checking (state q) = []
  marks_checking (compare q) = []
  marks_checking (or_left q M) = marks_checking M
  marks_checking (or_right q M) = marks_checking M
  marks_checking (or_out q M1 M2 M3) = marks_inferring M1 ++ (marks_checking M2 ++ marks_checking M3)
  marks_checking (falsity_out q M) = marks_inferring M
  marks_checking (inferred M) = marks_inferring M

-- A table that has each of them tells them.
module _ (ends : List ℕ) where
  mutual
    unfolding marks_inferring marks_checking Told ToldChecking

    told : (M : Infer) → Each (Has ends) (marks_inferring M) → Told ends M
    told (local q i) h = tt
    told (certificate q i) h = tt
    told (first q M) h = told M h
    told (second q M) h = told M h
    told (apply q M1 M2 t1 t2) h =
        let parts = each_split (marks_inferring M1) _ h in
        let later = each_split (marks_checking M2) _ parts.1 in
        (told M1 parts.0, told_checking M2 later.0, the_one later.1)
    told (instance q t M) h = told M h

    pub told_checking : (N : Check) → Each (Has ends) (marks_checking N) → ToldChecking ends N
    told_checking (pair q M1 M2) h =
        let parts = each_split (marks_checking M1) _ h in
        (told_checking M1 parts.0, told_checking M2 parts.1)
    told_checking (trivial q) h = tt
    told_checking (at_in q M) h = told_checking M h
    told_checking (at_out q M1 M2) h =
        let parts = each_split (marks_inferring M1) _ h in
        (told M1 parts.0, told_checking M2 parts.1)
    told_checking (says_in q M) h = told_checking M h
    told_checking (says_out q M1 M2) h =
        let parts = each_split (marks_inferring M1) _ h in
        (told M1 parts.0, told_checking M2 parts.1)
    told_checking (state q) h = tt
    told_checking (compare q) h = tt
    told_checking (or_left q M) h = told_checking M h
    told_checking (or_right q M) h = told_checking M h
    told_checking (or_out q M1 M2 M3) h =
        let parts = each_split (marks_inferring M1) _ h in
        let later = each_split (marks_checking M2) _ parts.1 in
        (told M1 parts.0, told_checking M2 later.0, told_checking M3 later.1)
    told_checking (falsity_out q M) h = told M h
    told_checking (inferred M) h = told M h

-- ── What is read takes its bytes ──

-- A step that is read at q, with its tag, its bytes and its marks; it has so many bytes at least.
pub record Placed {A : Type 0} (begin bytes : A → ℕ) (marks : A → List Mark) (proof : List ℕ) (least q : ℕ) (a : A) (e : ℕ) : Type 0 where
  pub begins : begin a ≡ q
  pub ends : q + bytes a ≡ e
  pub long : q + least ≤ e
  pub inside : e ≤ length proof
  pub spread : Spread q e (marks a)

-- A time takes a byte at least.
pub some_bytes : (t : Time) → 1 ≤ time_bytes t
unfolding time_bytes
some_bytes (Moment k) = omega arith
some_bytes MinusInfinity = omega arith
some_bytes PlusInfinity = omega arith
some_bytes Ctime = omega arith

module _ (proof : List ℕ) where
  -- So many bytes, and inside of the proof.
  abbrev Takes : {A : Type 0} → (A → ℕ) → ℕ → Option (A × ℕ) → Type 0
  Takes bytes q o = IfRead (λ a e. (q + bytes a ≡ e) × (e ≤ length proof)) o

  pub number_takes : (k at : ℕ) → Takes (λ _. k) at (number proof k at)
  unfolding number next
  number_takes k at = then_read (by (leb (at + k) (length proof)) refl) λ bs e h. read h
    where
      by : (b : Bool) → leb (at + k) (length proof) ≡ b → Takes (λ _. k) at (pick b (Some (take k (drop at proof), at + k)) None)
      by true e = read (refl, leb-true (at + k) (length proof) e)
      by false e = unread

  term_by_takes : (tag : TermTag) (q at : ℕ) → q + 1 ≡ at → at ≤ length proof → Takes term_bytes q (term_by proof tag at)
  unfolding term_by term_bytes time_bytes
  term_by_takes NameTag q at b l = then_read (number_takes 2 at) λ n e h. read (omega arith, h.1)
  term_by_takes MomentTag q at b l = then_read (number_takes 5 at) λ n e h. read (omega arith, h.1)
  term_by_takes MinusInfinityTag q at b l = read (b, l)
  term_by_takes PlusInfinityTag q at b l = read (b, l)
  term_by_takes CtimeTag q at b l = read (b, l)
  term_by_takes VariableTag q at b l = unread

  pub term_takes : (q : ℕ) → Takes term_bytes q (term proof q)
  unfolding term
  term_takes q = then_read (number_takes 1 q) λ b at h. present_read (term_tag b) at _ λ tag _. term_by_takes tag q at h.0 h.1

  module _ (c : ℕ) where
    pub time_takes : (q : ℕ) → Takes time_bytes q (time proof c q)
    unfolding time only_time term_bytes
    time_takes q = then_read (term_takes q) by
      where
        by : (t : Term) (e : ℕ) → (q + term_bytes t ≡ e) × (e ≤ length proof) → Takes time_bytes q (only_time proof c t e)
        by (Name n) e h = unread
        by (When t) e h = read h

    abbrev pub Infers : ℕ → Infer → ℕ → Type 0
    Infers q M e = Placed offset bytes_inferring marks_inferring proof 2 q M e

    abbrev pub Checks : ℕ → Check → ℕ → Type 0
    Checks q N e = Placed place bytes_checking marks_checking proof 1 q N e

    -- A step by its tag at q, which is the byte before.
    module _ (infers : ℕ → Reader Infer) (checks : ℕ → Reader Check)
        (infers_placed : (h q : ℕ) → IfRead (Infers q) (infers h q)) (checks_placed : (h q : ℕ) → IfRead (Checks q) (checks h q))
        (h q at : ℕ) (before : q + 1 ≡ at) (inside : at ≤ length proof) where
      infer_by_placed : (tag : InferTag) → IfRead (Infers q) (infer_by proof c infers checks h q tag at)
      unfolding infer_by offset bytes_inferring marks_inferring
      infer_by_placed LocalTag =
          then_read (number_takes 1 at) λ i e b.
          ensure_read _ e _ λ _. read record { begins = refl; ends = omega arith; long = omega arith; inside = b.1; spread = no_marks }
      infer_by_placed CertificateTag =
          then_read (number_takes 1 at) λ i e b.
          ensure_read _ e _ λ _. read record { begins = refl; ends = omega arith; long = omega arith; inside = b.1; spread = no_marks }
      infer_by_placed FirstTag =
          then_read (infers_placed h at) λ M e b.
          read record { begins = refl; ends = omega arith; long = omega arith; inside = b.inside; spread = wider q e b.spread (omega arith) (omega arith) }
      infer_by_placed SecondTag =
          then_read (infers_placed h at) λ M e b.
          read record { begins = refl; ends = omega arith; long = omega arith; inside = b.inside; spread = wider q e b.spread (omega arith) (omega arith) }
      infer_by_placed ApplyTag =
          then_read (infers_placed h at) λ M1 m b1.
          then_read (checks_placed h m) λ M2 a b2.
          then_read (time_takes a) λ t1 b b3.
          then_read (time_takes b) λ t2 e b4.
          let one = some_bytes t1 in
          let other = some_bytes t2 in
          read record {
            begins = refl;
            ends = omega arith;
            long = omega arith;
            inside = b4.1;
            spread = with_mark (wider q m b1.spread (omega arith) (omega arith)) b2.spread _ e b2.begins (omega arith) (omega arith) (omega arith) (omega arith);
          }
      infer_by_placed InstanceTag =
          then_read (term_takes at) λ t m b1.
          then_read (infers_placed h m) λ M e b2.
          read record { begins = refl; ends = omega arith; long = omega arith; inside = b2.inside; spread = wider q e b2.spread (omega arith) (omega arith) }

      -- No part, one, and two.
      still : Spread q at []
      still = no_marks

      after : {m e : ℕ} {ms ns : List Mark} → Spread at m ms → Spread m e ns → at ≤ m → m ≤ e → Spread q e (ms ++ ns)
      after {m} s r l k = both_parts (wider q m s (omega arith) (omega arith)) r (omega arith) (omega arith)

      check_by_placed : (tag : CheckTag) → IfRead (Checks q) (check_by proof c infers checks h q tag at)
      unfolding check_by place bytes_checking marks_checking
      check_by_placed PairTag =
          then_read (checks_placed h at) λ M1 m b1.
          then_read (checks_placed h m) λ M2 e b2.
          read record { begins = refl; ends = omega arith; long = omega arith; inside = b2.inside; spread = after b1.spread b2.spread (omega arith) (omega arith) }
      check_by_placed TopStepTag = read record { begins = refl; ends = before; long = omega arith; inside = inside; spread = still }
      check_by_placed AtInTag =
          then_read (checks_placed h at) λ M e b.
          read record { begins = refl; ends = omega arith; long = omega arith; inside = b.inside; spread = wider q e b.spread (omega arith) (omega arith) }
      check_by_placed AtOutTag =
          then_read (infers_placed h at) λ M1 m b1.
          then_read (checks_placed (suc h) m) λ M2 e b2.
          read record { begins = refl; ends = omega arith; long = omega arith; inside = b2.inside; spread = after b1.spread b2.spread (omega arith) (omega arith) }
      check_by_placed SaysInTag =
          then_read (checks_placed h at) λ M e b.
          read record { begins = refl; ends = omega arith; long = omega arith; inside = b.inside; spread = wider q e b.spread (omega arith) (omega arith) }
      check_by_placed SaysOutTag =
          then_read (infers_placed h at) λ M1 m b1.
          then_read (checks_placed (suc h) m) λ M2 e b2.
          read record { begins = refl; ends = omega arith; long = omega arith; inside = b2.inside; spread = after b1.spread b2.spread (omega arith) (omega arith) }
      check_by_placed StateTag = read record { begins = refl; ends = before; long = omega arith; inside = inside; spread = still }
      check_by_placed OrderStepTag = read record { begins = refl; ends = before; long = omega arith; inside = inside; spread = still }
      check_by_placed OrLeftTag =
          then_read (checks_placed h at) λ M e b.
          read record { begins = refl; ends = omega arith; long = omega arith; inside = b.inside; spread = wider q e b.spread (omega arith) (omega arith) }
      check_by_placed OrRightTag =
          then_read (checks_placed h at) λ M e b.
          read record { begins = refl; ends = omega arith; long = omega arith; inside = b.inside; spread = wider q e b.spread (omega arith) (omega arith) }
      check_by_placed OrOutTag =
          then_read (infers_placed h at) λ M1 m b1.
          then_read (checks_placed (suc h) m) λ M2 a b2.
          then_read (checks_placed (suc h) a) λ M3 e b3.
          let branches = both_parts b2.spread b3.spread (omega arith) (omega arith) in
          read record { begins = refl; ends = omega arith; long = omega arith; inside = b3.inside; spread = after b1.spread branches (omega arith) (omega arith) }
      check_by_placed FalsityOutTag =
          then_read (infers_placed h at) λ M e b.
          read record { begins = refl; ends = omega arith; long = omega arith; inside = b.inside; spread = wider q e b.spread (omega arith) (omega arith) }
      check_by_placed (InferredTag tag) =
          then_read (infer_by_placed tag) λ M e b.
          read record { begins = b.begins; ends = b.ends; long = omega arith; inside = b.inside; spread = b.spread }

    mutual
      unfolding infer_step check_step

      infer_placed : (n h q : ℕ) → IfRead (Infers q) (infer_step proof c n h q)
      infer_placed zero h q = unread
      infer_placed (suc n) h q =
          then_read (number_takes 1 q) λ b at t.
          present_read (infer_tag b) at _ λ tag _. infer_by_placed _ _ (λ k o. infer_placed n k o) (λ k o. check_placed n k o) h q at t.0 t.1 tag

      check_placed : (n h q : ℕ) → IfRead (Checks q) (check_step proof c n h q)
      check_placed zero h q = unread
      check_placed (suc n) h q =
          then_read (number_takes 1 q) λ b at t.
          present_read (check_tag b) at _ λ tag _. check_by_placed _ _ (λ k o. infer_placed n k o) (λ k o. check_placed n k o) h q at t.0 t.1 tag

-- ── As others use it ──

-- A step that checks, read at a place, begins there and ends where its bytes do.
pub checks_there : (proof : List ℕ) (c n h at : ℕ) (N : Check) (e : ℕ) → check_step proof c n h at ≡ Some (N, e) → Checks proof c at N e
checks_there proof c n h at N e r = so_read _ r (check_placed proof c n h at)

pub ends_there : (proof : List ℕ) (c n h at : ℕ) (N : Check) (e : ℕ) → check_step proof c n h at ≡ Some (N, e) → (place N ≡ at) × (past N ≡ e)
ends_there proof c n h at N e r =
    let there = checks_there proof c n h at N e r in
    (there.begins, omega arith)

-- So what the table has for a second part that is read at a place is where it ends.
pub end_told : (ends : List ℕ) (proof : List ℕ) (c n h at : ℕ) (N : Check) (e : ℕ) → check_step proof c n h at ≡ Some (N, e) → EndTold ends N
    → get_or ends (slot at) 0 ≡ e
end_told ends proof c n h at N e r told =
    let there = ends_there proof c n h at N e r in
    rw (sym there.0) (told ∙ there.1)
