-- The steps that infer, over bytes: what the code comes to in each branch is what the walk of the step that the reader finds there comes to.
use Prim.Native.Nat.{ℕ, zero, suc, ◌+◌, ◌<◌}
use mathlib.Core.Path.{◌≡◌, refl, sym, ap, ◌∙◌}
use mathlib.Core.List.{List}
use Rattle.std.proofs.lemmas.Option.{none-some, same_Some}
use Rattle.std.specs.Prelude.{None, Some}
use native.Mathlib.Omega.{arith}
use lib.ListN.{length, get_or}
use Rattle.procap.specs.Bytes.{term}
use Rattle.procap.specs.declared.fact.Term.{Term}
use Rattle.bl.specs.declared.InferTag.{InferTag}
use Rattle.bl.specs.declared.InferTag.TheVariants.{LocalTag, CertificateTag, FirstTag, SecondTag, ApplyTag, InstanceTag}
use Rattle.bl.specs.Trees.{top, Infer}
use Rattle.bl.specs.Tags.{infer_tag}
use Rattle.bl.specs.Policy.{Policy}
use Rattle.bl.specs.Rules.{Assumption, View}
use Rattle.bl.specs.Steps.{infer_step}
use Rattle.bl.specs.Walk.{infer, check}
use Rattle.steps.specs.Ends.{slot, Told}
use Rattle.ledger.specs.declared.Ledger.{Ledger}
use Rattle.formula.specs.declared.parts.Judgement.{Judgement}
use Rattle.judging.specs.declared.judge.Scope.{Scope}
use Rattle.judging.specs.declared.judge.Inferred.{Inferred}
use Rattle.judging.specs.declared.judge.Application.{Application}
use Rattle.judging.specs.declared.judge.Checked.{Checked}
use Rattle.ledger.specs.Books.{GoesOn, book, Sound}
use Rattle.formula.specs.Meaning.{On}
use Rattle.judging.specs.Judging.{view_in, part_of, and_then, first_side, second_side, put_in, Yields}
use Rattle.judging.specs.StepPromises.{UsesLocal, UsesCertificate, Continues, PutsToUse, StaysStopped}
use Rattle.walk.specs.Walking.{Sources, Around, InfersAt, InfersBy, ChecksAt}
use Rattle.procap.proofs.ReadApart.{same_read, after_byte}
use Rattle.procap.specs.declared.fact.Fact.{Fact}
use Rattle.steps.proofs.StepPlaces.{end_told}
use Rattle.steps.proofs.StepsRead.{infer_read, local_read, certificate_read, first_read, second_read, ApplyRead, apply_read, instance_read}
use Rattle.judging.proofs.StepWalks.{local_walk, certificate_walk, first_walk, second_walk, instance_walk, apply_walk, use_implication}
use Rattle.judging.proofs.Coming.{Comes, comes_halted, comes_then, comes_or_stays, comes_with, comes_inferred, comes_checked, comes_used, comes_yields, passes_on}
use Rattle.walk.proofs.Surroundings.{around_part}

-- With no level left nothing is read.
no_infer_step : (proof : List ℕ) (c n h q : ℕ) (M : Infer) (e : ℕ) → n ≡ 0 → infer_step proof c n h q ≡ Some (M, e) → ⊥
unfolding infer_step
no_infer_step proof c zero h q M e z r = let z : ◌≡◌ {A = ℕ} 0 1 = cc in omega arith
no_infer_step proof c (suc n) h q M e z r = omega arith

-- A step that is read begins inside of the proof.
infer_inside : (proof : List ℕ) (c n h q : ℕ) (M : Infer) (e : ℕ) → infer_step proof c n h q ≡ Some (M, e) → q < length proof
infer_inside proof c zero h q M e r = absurd (no_infer_step proof c zero h q M e refl r)
infer_inside proof c (suc n) h q M e r = (infer_read proof c n h q M e r).0

-- So does a term.
term_inside : (proof : List ℕ) (q : ℕ) (t : Term) (e : ℕ) → term proof q ≡ Some (t, e) → q < length proof
unfolding term
term_inside proof q t e r = (after_byte proof q _ (t, e) r).0

-- What is told of a step is told of the step that it is.
told_is : (ends : List ℕ) {M M' : Infer} → M ≡ M' → Told ends M → Told ends M'
told_is ends e told = rw e at told

module _ (S : Sources) (rows : List ℕ) (scope : Scope) (ledger : Ledger) (list : List Fact) where
  -- The view of the steps here.
  abbrev view : View
  view = view_in scope.view

  -- The first test: is a level left?
  pub infer_none : (left at : ℕ) {r : Inferred} {list' : List Fact} → left ≡ 0 → InfersAt S rows scope ledger list left at r list'
  infer_none left at z π Γ M e sound around reads told = absurd (no_infer_step S.proof (length π.statements) left scope.count at M e z reads)

  -- Then the step is read by its tag, if there is one.
  pub infer_no_tag : (left at : ℕ) {r : Inferred} {list' : List Fact} → infer_tag (get_or S.proof at 0) ≡ None → InfersAt S rows scope ledger list left at r list'
  infer_no_tag zero at t π Γ M e sound around reads told = absurd (no_infer_step S.proof (length π.statements) zero scope.count at M e refl reads)
  infer_no_tag (suc n) at t π Γ M e sound around reads told =
      let found = infer_read S.proof (length π.statements) n scope.count at M e reads in
      absurd (none-some found.1.tag (sym t ∙ found.1.is))

  pub infer_tagged : (left n at : ℕ) (tag : InferTag) {r : Inferred} {list' : List Fact} → left ≡ suc n → infer_tag (get_or S.proof at 0) ≡ Some tag
      → InfersBy S rows scope ledger list n tag at r list' → InfersAt S rows scope ledger list left at r list'
  infer_tagged left n at tag more t h π Γ M e sound around reads =
      let found = infer_read S.proof (length π.statements) n scope.count at M e (rw more at reads) in
      let same = same_Some found.1.tag tag (sym found.1.is ∙ t) in
      h π Γ M e sound (rw more at around) (rw same at found.1.reads)

  module _ (left at : ℕ) where
    -- The step here, by its tag.
    abbrev By : InferTag → Inferred → List Fact → Type 0
    By tag r list' = InfersBy S rows scope ledger list left tag at r list'

    -- 20 and 21.
    pub infer_local : {r : Inferred} → UsesLocal S.proof rows S.strengths scope at ledger r → By LocalTag r list
    infer_local h π Γ M e sound around reads told =
        let found = local_read S.proof (length π.statements) left scope.count at M e reads in
        let room = around.room in
        rw (found.is, local_walk π Γ view at found.index)
        (h S.state S.buffer list π.pairs Γ found.index e sound around.policy.strong around.assumed (omega arith) found.reads found.around)

    pub infer_certificate : {r : Inferred} → UsesCertificate S.proof S.certificates S.strengths scope at ledger r → By CertificateTag r list
    infer_certificate h π Γ M e sound around reads told =
        let found = certificate_read S.proof (length π.statements) left scope.count at M e reads in
        rw (found.is, certificate_walk π Γ view at found.index)
        (h S.state S.buffer list π.pairs π.statements found.index e sound around.policy.strong around.policy.certified found.reads found.listed)

    -- 27, where no term stands after its tag.
    pub infer_no_term : {begin : ℕ} → (at < length S.proof → begin ≡ at + 1) → None ≡ term S.proof begin → {r : Inferred} {list' : List Fact} → By InstanceTag r list'
    infer_no_term begins none π Γ M e sound around reads told =
        let found = instance_read S.proof (length π.statements) left scope.count at M e reads in
        let inside = term_inside S.proof (at + 1) found.put found.middle found.put_reads in
        absurd (none-some (found.put, found.middle) ((rw (begins (omega arith)) at none) ∙ found.put_reads))

    -- The other steps have a part that infers after their tag.
    module _ {begin : ℕ} (begins : at < length S.proof → begin ≡ at + 1) where
      -- 27, whose part stands after the term put in.
      pub infer_instance : {put : Term} {middle : ℕ} → Some (put, middle) ≡ term S.proof begin
          → {inferred : Inferred} {list₁ : List Fact} → InfersAt S rows scope ledger list left middle inferred list₁
          → {r : Inferred} → Continues S.buffer inferred (put_in at put) r → By InstanceTag r list₁
      unfolding Told
      infer_instance terms {inferred} {list₁} infers h π Γ M e sound around reads told =
          let found = instance_read S.proof (length π.statements) left scope.count at M e reads in
          let inside = term_inside S.proof (at + 1) found.put found.middle found.put_reads in
          let read = same_read (term S.proof (at + 1)) (sym (rw (begins (omega arith)) at terms)) found.put_reads in
          rw (found.is, instance_walk π Γ view at found.put found.part, ← read.0)
          (h S.state (book ledger list) _ e list₁
          (infers π Γ found.part e sound (around_part S rows scope left π Γ around) (rw read.1 found.part_reads) (told_is S.ends found.is told)))

      module _ {inferred : Inferred} {list₁ : List Fact} (infers : InfersAt S rows scope ledger list left begin inferred list₁) where
        pub first_part : (π : Policy) (Γ : List Assumption) (M : Infer) (e : ℕ) → Sound (book ledger list) → Around S rows scope (suc left) π Γ
            → infer_step S.proof (length π.statements) left scope.count (at + 1) ≡ Some (M, e) → Told S.ends M
            → Yields S.state S.buffer (book ledger list) (infer π Γ view M) e inferred list₁
        first_part π Γ M e sound around reads told =
            let inside = infer_inside S.proof (length π.statements) left scope.count (at + 1) M e reads in
            infers π Γ M e sound (around_part S rows scope left π Γ around) (rw (begins (omega arith)) reads) told

        -- 23 and 24.
        pub infer_first : {r : Inferred} → Continues S.buffer inferred (first_side at) r → By FirstTag r list₁
        unfolding Told
        infer_first h π Γ M e sound around reads told =
            let found = first_read S.proof (length π.statements) left scope.count at M e reads in
            rw (found.is, first_walk π Γ view at found.part)
            (h S.state (book ledger list) _ e list₁ (first_part π Γ found.part e sound around found.reads (told_is S.ends found.is told)))

        pub infer_second : {r : Inferred} → Continues S.buffer inferred (second_side at) r → By SecondTag r list₁
        unfolding Told
        infer_second h π Γ M e sound around reads told =
            let found = second_read S.proof (length π.statements) left scope.count at M e reads in
            rw (found.is, second_walk π Γ view at found.part)
            (h S.state (book ledger list) _ e list₁ (first_part π Γ found.part e sound around found.reads (told_is S.ends found.is told)))

        -- 26: its first step, and then the implication that it infers is put to use, where the walk goes on.
        module _ {application : Application} {second_end : ℕ} (looked_up : second_end ≡ get_or S.ends (slot inferred.next) 0)
            (puts : PutsToUse S.buffer S.proof at inferred second_end application) (stays : StaysStopped inferred application.ledger) where
          -- The table has where the second step ends.
          ends_after : (π : Policy) (M : Infer) (e : ℕ) (found : ApplyRead S.proof (length π.statements) left scope.count at M e) → Told S.ends M
              → inferred.next ≡ found.middle → second_end ≡ found.after
          unfolding Told
          ends_after π M e found told there =
              looked_up ∙ rw there
              (end_told S.ends S.proof (length π.statements) left scope.count found.middle found.other found.after found.other_reads (told_is S.ends found.is told).2)

          applied_comes : (π : Policy) (Γ : List Assumption) (M : Infer) (e : ℕ) → Sound (book ledger list) → Around S rows scope (suc left) π Γ
              → (found : ApplyRead S.proof (length π.statements) left scope.count at M e) → Told S.ends M
              → Comes S.state (book ledger list) (and_then (infer π Γ view found.part) (use_implication at found.from found.to)) (book application.ledger list₁)
              (λ x. On S.buffer application.premise x.0 found.from found.to × On S.buffer (part_of application.premise application.conclusion) x.1 found.from found.to
              × (application.middle ≡ found.middle) × (application.next ≡ e))
          unfolding Told
          applied_comes π Γ M e sound around found told =
              let part =
              comes_inferred S.state S.buffer (book ledger list) _ found.middle inferred list₁
              (first_part π Γ found.part found.middle sound around found.part_reads (told_is S.ends found.is told).0) in
              comes_or_stays S.state (book ledger list) (book inferred.ledger list₁) _ _ part (book application.ledger list₁) (top, top)
              (λ going j so. comes_used S.state S.buffer at list₁ inferred.ledger j.0 j.1 j.2 found.from found.to found.middle e application part.gives.sound
              (rw so.1 at puts S.state list₁ j.0 j.1 j.2 found.from found.to (length π.statements) found.between e going part.gives.sound so.0
              (rw (ends_after π M e found told so.1) found.from_reads) found.to_reads))
              (λ n. ap (λ l. book l list₁) (stays n))

          -- Where the walk has stopped.
          pub infer_apply_stopped : {r : Inferred} → r.ledger ≡ application.ledger → (GoesOn application.ledger → ⊥) → By ApplyTag r list₁
          infer_apply_stopped {r} same n π Γ M e sound around reads told =
              let found = apply_read S.proof (length π.statements) left scope.count at M e reads in
              rw (found.is, apply_walk π Γ view at found.part found.other found.from found.to)
              (comes_yields S.state S.buffer (book ledger list) _ e r list₁
              (rw same
              (comes_halted S.state (book ledger list) (book application.ledger list₁) _ _ (applied_comes π Γ M e sound around found told) (top, found.from, found.to) n)))

          -- And with its second step checked.
          pub infer_apply : GoesOn application.ledger → {conclusion : Judgement} → conclusion ≡ part_of application.premise application.conclusion
              → {checked : Checked} {list₂ : List Fact}
              → ChecksAt S rows scope application.ledger list₁ left S.buffer application.premise application.middle checked list₂
              → By ApplyTag (record { ledger = checked.ledger; judgement = conclusion; next = application.next }) list₂
          unfolding Told
          infer_apply going {conclusion} concludes {checked} {list₂} checks π Γ M e sound around reads told =
              let found = apply_read S.proof (length π.statements) left scope.count at M e reads in
              let applied = applied_comes π Γ M e sound around found told in
              let part = around_part S rows scope left π Γ around in
              let used = book application.ledger list₁ in
              let r = book checked.ledger list₂ in
              rw (found.is, apply_walk π Γ view at found.part found.other found.from found.to)
              (comes_yields S.state S.buffer (book ledger list) _ e (record { ledger = checked.ledger; judgement = conclusion; next = application.next }) list₂
              (comes_then S.state (book ledger list) used _ _ applied r going
              (λ x on. comes_with S.state used r _
              (comes_checked S.state used _ found.after checked list₂
              (passes_on S.state S.buffer application.premise x.0 found.from found.to on.0 (check π Γ view found.other x.0) used found.after checked list₂
              (checks π Γ found.other found.after applied.gives.sound part (rw on.2 found.other_reads) (told_is S.ends found.is told).1 x.0 on.0.means)))
              (x.1, found.from, found.to) (rw concludes on.1, on.3))))
