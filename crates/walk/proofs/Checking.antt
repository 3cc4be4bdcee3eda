-- The steps that check, over bytes: what the code comes to in each branch is what the walk of the step that the reader finds there comes to.
use Prim.Native.Nat.{ℕ, zero, suc, ◌+◌, ◌<◌}
use mathlib.Core.Path.{◌≡◌, refl, sym, ap, ◌∙◌}
use mathlib.Core.List.{List, ◌∷◌, map}
use Rattle.std.proofs.lemmas.Option.{none-some, same_Some}
use Rattle.std.specs.Prelude.{None, Some}
use native.Mathlib.Omega.{arith}
use lib.ListN.{length, get_or}
use Rattle.procap.specs.declared.fact.Fact.{Fact}
use Rattle.bl.specs.declared.InferTag.{InferTag}
use Rattle.bl.specs.declared.CheckTag.{CheckTag}
use Rattle.bl.specs.declared.CheckTag.TheVariants.{PairTag, TopStepTag, StateTag, OrderStepTag, InferredTag}
use Rattle.bl.specs.declared.FormulaTag.TheVariants.{AndTag}
use Rattle.bl.specs.Trees.{Formula, Infer, Check}
use Rattle.bl.specs.Tags.{check_tag}
use Rattle.bl.specs.Policy.{Policy}
use Rattle.bl.specs.Rules.{Assumption, shut, shut_out, View, view_of}
use Rattle.bl.specs.Questions.{Test}
use Rattle.bl.specs.Steps.{infer_step, check_step, check_by}
use Rattle.bl.specs.Walk as walk
use Rattle.bl.specs.Walk.{infer, check}
use Rattle.steps.specs.Ends.{Told, ToldChecking}
use Rattle.ledger.specs.declared.Ledger.{Ledger}
use Rattle.formula.specs.declared.parts.Judgement.{Judgement}
use Rattle.judging.specs.declared.judge.Scope.{Scope}
use Rattle.judging.specs.declared.judge.Inferred.{Inferred}
use Rattle.judging.specs.declared.judge.Checked.{Checked}
use Rattle.judging.specs.declared.judge.Shell.{Shell}
use Rattle.judging.specs.declared.judge.Shell.TheVariants.{AtShell, SaysShell, LeftShell, RightShell}
use Rattle.judging.specs.declared.judge.Sides.{Sides}
use Rattle.judging.specs.declared.judge.Inside.{Inside}
use Rattle.ledger.specs.Books.{GoesOn, book, Sound, Gives}
use Rattle.formula.specs.Meaning.{Means, On}
use Rattle.judging.specs.RowsOf.{RowIs, is_plain, is_claim, is_shut}
use Rattle.judging.specs.RowNumbers.{numbers_of_row, rows_with}
use Rattle.judging.proofs.RowLaws.{row_again}
use Rattle.judging.specs.Judging.{view_in, view_on, scope_inside, scope_with, part_of, and_then, sides, TwoSided, and_sides, inside, top_goal, fact_goal, order_goal, Passes}
use Rattle.judging.specs.StepPromises.{TakesSides, TakesInside, TakesInsideInferred, StaysStopped, ChecksInferred}
use Rattle.walk.specs.Walking.{Sources, Around, KeepsAsRead, InfersAt, InfersBy, ChecksAt, ChecksBy}
use Rattle.walk.specs.WalkCalls.{Puts, puts_at, puts_says, puts_left, puts_right, TakesOut, takes_at, takes_says}
use Rattle.steps.proofs.StepsRead.{PartRead, check_read, pair_read, trivial_read, state_read, compare_read, at_in_read}
use Rattle.steps.proofs.StepsRead.{says_in_read, at_out_read, says_out_read, or_left_read, or_right_read, inferred_tag, inferred_read, begins_there}
use Rattle.judging.proofs.StepWalks.{check_inside, pair_walk, trivial_walk, state_walk, compare_walk, at_in_walk, says_in_walk, at_out_walk, says_out_walk, or_left_walk, or_right_walk, inferred_walk}
use Rattle.judging.proofs.Coming.{Comes, comes_taken, comes_inferred, comes_checked, comes_or_stays, passes_on, passes_halted, passes_then}
use Rattle.judging.proofs.JudgingLaws.{takes_so}
use Rattle.walk.proofs.Falling.{tag_inside}
use Rattle.walk.proofs.Surroundings.{around_part, around_said}
use Rattle.walk.proofs.Inferring.{infer_tagged, first_part}
use Rattle.walk.proofs.Assuming.{part_assuming}

-- With no level left nothing is read.
no_check_step : (proof : List ℕ) (c n h q : ℕ) (N : Check) (e : ℕ) → n ≡ 0 → check_step proof c n h q ≡ Some (N, e) → ⊥
unfolding check_step
no_check_step proof c zero h q N e z r = let z : ◌≡◌ {A = ℕ} 0 1 = cc in omega arith
no_check_step proof c (suc n) h q N e z r = omega arith

-- A step that is read begins inside of the proof.
check_begins : (proof : List ℕ) (c n h q : ℕ) (N : Check) (e : ℕ) → check_step proof c n h q ≡ Some (N, e) → q < length proof
check_begins proof c zero h q N e r = absurd (no_check_step proof c zero h q N e refl r)
check_begins proof c (suc n) h q N e r = (check_read proof c n h q N e r).0

-- What is told of a step is told of the step that it is.
pub told_is : (ends : List ℕ) {N N' : Check} → N ≡ N' → ToldChecking ends N → ToldChecking ends N'
told_is ends e told = rw e at told

-- ── Steps with a shell ──

-- A step that puts a formula into a shell, as it is read: its part, and its walk.
record PutRead (proof ends : List ℕ) (c n h q : ℕ) (shell : Shell) (N : Check) (e : ℕ) : Type 0 where
  part : Check
  reads : check_step proof c n h (q + 1) ≡ Some (part, e)
  told : ToldChecking ends part
  walks : (π : Policy) (Γ : List Assumption) (v : View) (j : walk.Judgement)
      → check π Γ v N j.0 j.1 j.2 ≡ and_then (inside shell q j) (check_inside π Γ v part)

-- One that was read, by what is told of its part and by the walk of the step that it is.
put_found : (proof ends : List ℕ) (c n h q : ℕ) (shell : Shell) {make : Check → Check} {N : Check} {e : ℕ} → PartRead proof c n h q make N e
    → ((M : Check) → ToldChecking ends (make M) → ToldChecking ends M)
    → ((π : Policy) (Γ : List Assumption) (v : View) (j : walk.Judgement) (M : Check)
    → check π Γ v (make M) j.0 j.1 j.2 ≡ and_then (inside shell q j) (check_inside π Γ v M))
    → ToldChecking ends N → PutRead proof ends c n h q shell N e
put_found proof ends c n h q shell found tells walks told =
    record {
      part = found.part;
      reads = found.reads;
      told = tells found.part (told_is ends found.is told);
      walks = λ π Γ v j. ap (λ N. check π Γ v N j.0 j.1 j.2) found.is ∙ walks π Γ v j found.part;
    }

put_read : (proof ends : List ℕ) (c n h q : ℕ) (tag : CheckTag) (shell : Shell) (N : Check) (e : ℕ) → Puts tag shell
    → check_by proof c (infer_step proof c n) (check_step proof c n) h q tag (q + 1) ≡ Some (N, e) → ToldChecking ends N
    → PutRead proof ends c n h q shell N e
unfolding ToldChecking
put_read proof ends c n h q tag shell N e puts_at reads =
    put_found proof ends c n h q AtShell (at_in_read proof c n h q N e reads) (λ M t. t) (λ π Γ v j. at_in_walk π Γ v q j.0 j.1 j.2)
put_read proof ends c n h q tag shell N e puts_says reads =
    put_found proof ends c n h q SaysShell (says_in_read proof c n h q N e reads) (λ M t. t) (λ π Γ v j. says_in_walk π Γ v q j.0 j.1 j.2)
put_read proof ends c n h q tag shell N e puts_left reads =
    put_found proof ends c n h q LeftShell (or_left_read proof c n h q N e reads) (λ M t. t) (λ π Γ v j. or_left_walk π Γ v q j.0 j.1 j.2)
put_read proof ends c n h q tag shell N e puts_right reads =
    put_found proof ends c n h q RightShell (or_right_read proof c n h q N e reads) (λ M t. t) (λ π Γ v j. or_right_walk π Γ v q j.0 j.1 j.2)

-- A step that takes a formula out of a shell: the part that infers it, the part that assumes what is inside, and its walk.
record TakeRead (proof ends : List ℕ) (c n h q : ℕ) (shell : Shell) (N : Check) (e : ℕ) : Type 0 where
  part : Infer
  other : Check
  middle : ℕ
  part_reads : infer_step proof c n h (q + 1) ≡ Some (part, middle)
  other_reads : check_step proof c n (suc h) middle ≡ Some (other, e)
  part_told : Told ends part
  other_told : ToldChecking ends other
  walks : (π : Policy) (Γ : List Assumption) (v : View) (j : walk.Judgement)
      → check π Γ v N j.0 j.1 j.2 ≡ and_then (and_then (infer π Γ v part) (inside shell q)) (λ x. check π (x ∷ Γ) v other j.0 j.1 j.2)

take_read : (proof ends : List ℕ) (c n h q : ℕ) (tag : CheckTag) (shell : Shell) (N : Check) (e : ℕ) → TakesOut tag shell
    → check_by proof c (infer_step proof c n) (check_step proof c n) h q tag (q + 1) ≡ Some (N, e) → ToldChecking ends N
    → TakeRead proof ends c n h q shell N e
unfolding ToldChecking
take_read proof ends c n h q tag shell N e takes_at reads told =
    let found = at_out_read proof c n h q N e reads in
    let both = told_is ends found.is told in
    record {
      part = found.part;
      other = found.other;
      middle = found.middle;
      part_reads = found.part_reads;
      other_reads = found.other_reads;
      part_told = both.0;
      other_told = both.1;
      walks = λ π Γ v j. ap (λ N. check π Γ v N j.0 j.1 j.2) found.is ∙ at_out_walk π Γ v q j.0 j.1 j.2 found.part found.other;
    }
take_read proof ends c n h q tag shell N e takes_says reads told =
    let found = says_out_read proof c n h q N e reads in
    let both = told_is ends found.is told in
    record {
      part = found.part;
      other = found.other;
      middle = found.middle;
      part_reads = found.part_reads;
      other_reads = found.other_reads;
      part_told = both.0;
      other_told = both.1;
      walks = λ π Γ v j. ap (λ N. check π Γ v N j.0 j.1 j.2) found.is ∙ says_out_walk π Γ v q j.0 j.1 j.2 found.part found.other;
    }

-- ── The steps ──

module _ (S : Sources) (rows : List ℕ) (scope : Scope) (ledger : Ledger) (list : List Fact) (goal_bytes : List ℕ) (goal : Judgement) where
  -- The view of the steps here.
  abbrev view : View
  view = view_in scope.view

  -- The first test: is a level left?
  pub check_none : (left at : ℕ) {r : Checked} {list' : List Fact} → left ≡ 0 → ChecksAt S rows scope ledger list left goal_bytes goal at r list'
  check_none left at z π Γ N e sound around reads told = absurd (no_check_step S.proof (length π.statements) left scope.count at N e z reads)

  -- Then the step is read by its tag, if there is one.
  pub check_no_tag : (left at : ℕ) {r : Checked} {list' : List Fact} → check_tag (get_or S.proof at 0) ≡ None → ChecksAt S rows scope ledger list left goal_bytes goal at r list'
  check_no_tag zero at t π Γ N e sound around reads told = absurd (no_check_step S.proof (length π.statements) zero scope.count at N e refl reads)
  check_no_tag (suc n) at t π Γ N e sound around reads told =
      let found = check_read S.proof (length π.statements) n scope.count at N e reads in
      absurd (none-some found.1.tag (sym t ∙ found.1.is))

  pub check_tagged : (left n at : ℕ) (tag : CheckTag) {r : Checked} {list' : List Fact} → left ≡ suc n → check_tag (get_or S.proof at 0) ≡ Some tag
      → ChecksBy S rows scope ledger list n tag goal_bytes goal at r list' → ChecksAt S rows scope ledger list left goal_bytes goal at r list'
  check_tagged left n at tag more t h π Γ N e sound around reads =
      let found = check_read S.proof (length π.statements) n scope.count at N e (rw more at reads) in
      let same = same_Some found.1.tag tag (sym found.1.is ∙ t) in
      h π Γ N e sound (rw more at around) (rw same at found.1.reads)

  module _ (left at : ℕ) where
    -- The step here, by its tag.
    abbrev By : CheckTag → Checked → List Fact → Type 0
    By tag r list' = ChecksBy S rows scope ledger list left tag goal_bytes goal at r list'

    -- An inferring step where one is checked, by the tag that was read there.
    pub check_inferred : (tag : InferTag) → check_tag (get_or S.proof at 0) ≡ Some (InferredTag tag)
        → {inferred : Inferred} {list' : List Fact} → InfersBy S rows scope ledger list left tag at inferred list'
        → {r : Checked} → ChecksInferred S.buffer goal_bytes at inferred goal r → By (InferredTag tag) r list'
    unfolding ToldChecking
    check_inferred tag t {inferred} {list'} infers h π Γ N e sound around reads told G means =
        let is = inferred_tag (get_or S.proof at 0) tag t in
        let inside = tag_inside S.proof at (InferredTag tag) t in
        let found = inferred_read S.proof (length π.statements) left scope.count at tag N e inside is reads in
        let there = begins_there S.proof (length π.statements) (suc left) scope.count at found.part e found.reads in
        let part = infer_tagged S rows scope ledger list (suc left) left at tag refl is infers in
        rw (found.is, inferred_walk π Γ view at G goal.from goal.to found.part there)
        (h S.state (book ledger list) _ e list' G (part π Γ found.part e sound around found.reads (told_is S.ends found.is told)) means)

    -- What a step without parts makes of its goal.
    abbrev Goes : Ledger → List Fact → (ℕ → Formula → Test) → Type 0
    Goes l list' part = (G : Formula) → Sound (book ledger list) → Means goal_bytes 0 goal.formula G → Gives S.state (book ledger list) (part at G) (book l list') tt

    -- 25, 2C and 2D, which end after their tag.
    module _ {tag : CheckTag} (t : check_tag (get_or S.proof at 0) ≡ Some tag) {next : ℕ} (ends : at < length S.proof → next ≡ at + 1) {l : Ledger} {list' : List Fact} where
      pub check_trivial : Goes l list' top_goal → By TopStepTag (record { ledger = l; next = next }) list'
      check_trivial h π Γ N e sound around reads told G means =
          let found = trivial_read S.proof (length π.statements) left scope.count at N e reads in
          rw (found.0, trivial_walk π Γ view at G goal.from goal.to) (record { gives = h G sound means; ends = λ _. ends (tag_inside S.proof at tag t) ∙ found.1 })

      pub check_state : Goes l list' fact_goal → By StateTag (record { ledger = l; next = next }) list'
      check_state h π Γ N e sound around reads told G means =
          let found = state_read S.proof (length π.statements) left scope.count at N e reads in
          rw (found.0, state_walk π Γ view at G goal.from goal.to) (record { gives = h G sound means; ends = λ _. ends (tag_inside S.proof at tag t) ∙ found.1 })

      pub check_order : Goes l list' order_goal → By OrderStepTag (record { ledger = l; next = next }) list'
      check_order h π Γ N e sound around reads told G means =
          let found = compare_read S.proof (length π.statements) left scope.count at N e reads in
          rw (found.0, compare_walk π Γ view at G goal.from goal.to) (record { gives = h G sound means; ends = λ _. ends (tag_inside S.proof at tag t) ∙ found.1 })

    -- 22: the sides of the goal, and then one after the other.
    module _ {parts : Sides} (splits : TakesSides goal_bytes at AndTag goal ledger parts) where
      sides_come : Sound (book ledger list) → (G : Formula) → Means goal_bytes 0 goal.formula G
          → Comes S.state (book ledger list) (and_sides at G) (book parts.ledger list)
          (λ x. On goal_bytes (part_of goal parts.first) x.0 goal.from goal.to × On goal_bytes (part_of goal parts.second) x.1 goal.from goal.to)
      unfolding sides TwoSided
      sides_come sound G means = comes_taken S.state list (and_sides at G) at ledger parts.ledger _ (G, G) sound (splits G tt means)

      pub check_pair_unfit : (GoesOn parts.ledger → ⊥) → {next : ℕ} → By PairTag (record { ledger = parts.ledger; next = next }) list
      check_pair_unfit n {next} π Γ N e sound around reads told G means =
          let found = pair_read S.proof (length π.statements) left scope.count at N e reads in
          rw (found.is, pair_walk π Γ view at G goal.from goal.to found.one found.other)
          (passes_halted S.state (book ledger list) (and_sides at G) parts.ledger list (sides_come sound G means) _ e n next)

      module _ (going : GoesOn parts.ledger) {begin : ℕ} (begins : at < length S.proof → begin ≡ at + 1) {one : Checked} {list₁ : List Fact}
          (checks : ChecksAt S rows scope parts.ledger list left goal_bytes (part_of goal parts.first) begin one list₁) where
        one_comes : (π : Policy) (Γ : List Assumption) (N : Check) (e : ℕ) → Sound (book parts.ledger list) → Around S rows scope (suc left) π Γ
            → check_step S.proof (length π.statements) left scope.count (at + 1) ≡ Some (N, e) → ToldChecking S.ends N
            → (A : Formula) → On goal_bytes (part_of goal parts.first) A goal.from goal.to
            → Comes S.state (book parts.ledger list) (check π Γ view N A goal.from goal.to) (book one.ledger list₁) (λ _. one.next ≡ e)
        one_comes π Γ N e sound around reads told A on =
            let inside = check_begins S.proof (length π.statements) left scope.count (at + 1) N e reads in
            comes_checked S.state (book parts.ledger list) _ e one list₁
            (passes_on S.state goal_bytes (part_of goal parts.first) A goal.from goal.to on (check π Γ view N A) (book parts.ledger list) e one list₁
            (checks π Γ N e sound (around_part S rows scope left π Γ around) (rw (begins (omega arith)) reads) told A on.means))

        pub check_pair_stopped : (GoesOn one.ledger → ⊥) → By PairTag one list₁
        unfolding ToldChecking
        check_pair_stopped n π Γ N e sound around reads told G means =
            let found = pair_read S.proof (length π.statements) left scope.count at N e reads in
            let both = told_is S.ends found.is told in
            rw (found.is, pair_walk π Γ view at G goal.from goal.to found.one found.other)
            (passes_then S.state (book ledger list) (and_sides at G) parts.ledger list (sides_come sound G means) _ e going one list₁
            (λ sound x on. passes_halted S.state (book parts.ledger list) _ one.ledger list₁
            (one_comes π Γ found.one found.middle sound around found.one_reads both.0 x.0 on.0) _ e n one.next))

        pub check_pair : GoesOn one.ledger → {other : Checked} {list₂ : List Fact}
            → ChecksAt S rows scope one.ledger list₁ left goal_bytes (part_of goal parts.second) one.next other list₂
            → By PairTag other list₂
        unfolding ToldChecking
        check_pair goes {other} {list₂} checks-other π Γ N e sound around reads told G means =
            let found = pair_read S.proof (length π.statements) left scope.count at N e reads in
            let both = told_is S.ends found.is told in
            rw (found.is, pair_walk π Γ view at G goal.from goal.to found.one found.other)
            (passes_then S.state (book ledger list) (and_sides at G) parts.ledger list (sides_come sound G means) _ e going other list₂
            (λ sound x on. passes_then S.state (book parts.ledger list) _ one.ledger list₁
            (one_comes π Γ found.one found.middle sound around found.one_reads both.0 x.0 on.0) _ e goes other list₂
            (λ sound y ends. passes_on S.state goal_bytes (part_of goal parts.second) x.1 goal.from goal.to on.1 (check π Γ view found.other x.1) (book one.ledger list₁) e other list₂
            (checks-other π Γ found.other e sound (around_part S rows scope left π Γ around) (rw ends found.other_reads) both.1 x.1 on.1.means))))

    module _ (shell : Shell) where
      -- 28 and 2A: what stands inside of the goal is checked in the scope inside.
      module _ {held : Inside} (has : TakesInside goal_bytes at shell goal ledger held) where
        held_comes : Sound (book ledger list) → (G : Formula) → Means goal_bytes 0 goal.formula G
            → Comes S.state (book ledger list) (inside shell at (G, goal.from, goal.to)) (book held.ledger list) (RowIs goal_bytes held.row 0 0)
        held_comes sound G means = comes_taken S.state list _ at ledger held.ledger _ shut sound (has G means)

        pub check_put_unfit : (GoesOn held.ledger → ⊥) → {next : ℕ} → (tag : CheckTag) → Puts tag shell → By tag (record { ledger = held.ledger; next = next }) list
        check_put_unfit n {next} tag is π Γ N e sound around reads told G means =
            let found = put_read S.proof S.ends (length π.statements) left scope.count at tag shell N e is reads told in
            rw (found.walks π Γ view (G, goal.from, goal.to))
            (passes_halted S.state (book ledger list) _ held.ledger list (held_comes sound G means) _ e n next)

        -- The part, for what it is that stands inside.
        part_passes : (π : Policy) (Γ : List Assumption) (N : Check) (e : ℕ) → Sound (book held.ledger list) → Around S rows scope (suc left) π Γ
            → (begin : ℕ) → check_step S.proof (length π.statements) left scope.count begin ≡ Some (N, e) → ToldChecking S.ends N
            → {r : Checked} {list' : List Fact}
            → ChecksAt S rows (scope_inside scope held.row) held.ledger list left goal_bytes held.row.judgement begin r list'
            → (x : Assumption) → RowIs goal_bytes held.row 0 0 x
            → Passes S.state (book held.ledger list) (check_inside π Γ view N x) e r list'
        unfolding check_inside view_in
        part_passes π Γ N e sound around begin reads told {r} {list'} checks x (is_plain {A} {a} {b} plain-Row usable on) =
            passes_on S.state goal_bytes held.row.judgement A a b on (check π Γ view N A) (book held.ledger list) e r list'
            ((rw plain-Row at checks) π Γ N e sound (around_part S rows scope left π Γ around) reads told A on.means)
        part_passes π Γ N e sound around begin reads told {r} {list'} checks x (is_claim {k} {A} {a} {b} claimed on) =
            passes_on S.state goal_bytes held.row.judgement A a b on (λ a b. check π (map shut_out Γ) (view_of k a b) N A a b) (book held.ledger list) e r list'
            ((rw claimed at checks) π (map shut_out Γ) N e sound (around_said S rows scope left π Γ around (Some (view_on k held.row.judgement))) reads told A on.means)
        part_passes π Γ N e sound around begin reads told checks x (is_shut plain-Row lower) = absurd (omega arith)

        pub check_put : GoesOn held.ledger → {begin : ℕ} → (at < length S.proof → begin ≡ at + 1) → {r : Checked} {list' : List Fact}
            → ChecksAt S rows (scope_inside scope held.row) held.ledger list left goal_bytes held.row.judgement begin r list'
            → (tag : CheckTag) → Puts tag shell → By tag r list'
        check_put going begins {r} {list'} checks tag is π Γ N e sound around reads told G means =
            let found = put_read S.proof S.ends (length π.statements) left scope.count at tag shell N e is reads told in
            let inside = check_begins S.proof (length π.statements) left scope.count (at + 1) found.part e found.reads in
            rw (found.walks π Γ view (G, goal.from, goal.to))
            (passes_then S.state (book ledger list) _ held.ledger list (held_comes sound G means) _ e going r list'
            (λ sound x row. part_passes π Γ found.part e sound around _ (rw (begins (omega arith)) found.reads) found.told checks x row))

      -- 29 and 2B: the step that infers, what stands inside of what it infers, and then the second step with that assumed.
      module _ {begin : ℕ} (begins : at < length S.proof → begin ≡ at + 1) {inferred : Inferred} {list₁ : List Fact}
          (infers : InfersAt S rows scope ledger list left begin inferred list₁)
          {held : Inside} (has : TakesInsideInferred S.buffer at shell inferred held) (stays : StaysStopped inferred held.ledger) where
        taken_comes : (π : Policy) (Γ : List Assumption) (N : Check) (e : ℕ) → Sound (book ledger list) → Around S rows scope (suc left) π Γ
            → (found : TakeRead S.proof S.ends (length π.statements) left scope.count at shell N e)
            → Comes S.state (book ledger list) (and_then (infer π Γ view found.part) (inside shell at)) (book held.ledger list₁)
            (λ x. RowIs S.buffer held.row 0 0 x × (inferred.next ≡ found.middle))
        taken_comes π Γ N e sound around found =
            let part =
            comes_inferred S.state S.buffer (book ledger list) _ found.middle inferred list₁
            (first_part S rows scope ledger list left at begins infers π Γ found.part found.middle sound around found.part_reads found.part_told) in
            comes_or_stays S.state (book ledger list) (book inferred.ledger list₁) _ _ part (book held.ledger list₁) shut
            (λ going j so. comes_taken S.state list₁ (inside shell at j) at inferred.ledger held.ledger _ shut part.gives.sound
            (takes_so (λ x row. (row, so.1)) (rw (so.0.from, so.0.to) at (has going j.0 so.0.means))))
            (λ n. ap (λ l. book l list₁) (stays n))

        pub check_take_stopped : (GoesOn held.ledger → ⊥) → {next : ℕ} → (tag : CheckTag) → TakesOut tag shell → By tag (record { ledger = held.ledger; next = next }) list₁
        check_take_stopped n {next} tag is π Γ N e sound around reads told G means =
            let found = take_read S.proof S.ends (length π.statements) left scope.count at tag shell N e is reads told in
            rw (found.walks π Γ view (G, goal.from, goal.to))
            (passes_halted S.state (book ledger list) _ held.ledger list₁ (taken_comes π Γ N e sound around found) _ e n next)

        -- The row is the assumption more.
        pub check_take : GoesOn held.ledger → {between more : List ℕ} → KeepsAsRead scope.count rows between
            → more ≡ rows_with between scope.count held.row → length more ≡ length between
            → {r : Checked} {list₂ : List Fact}
            → ChecksAt S more (scope_with scope) held.ledger list₁ left goal_bytes goal inferred.next r list₂
            → (tag : CheckTag) → TakesOut tag shell → By tag r list₂
        check_take going {between} {more} kept put all {r} {list₂} checks tag is π Γ N e sound around reads told G means =
            let found = take_read S.proof S.ends (length π.statements) left scope.count at tag shell N e is reads told in
            rw (found.walks π Γ view (G, goal.from, goal.to))
            (passes_then S.state (book ledger list) _ held.ledger list₁ (taken_comes π Γ N e sound around found) _ e going r list₂
            (λ sound x so. part_assuming S rows scope left goal_bytes goal (numbers_of_row held.row) kept put all held.ledger list₁ inferred.next checks
            π Γ found.other e sound around (rw so.1 found.other_reads) found.other_told x (rw (row_again held.row) so.0) G means))
