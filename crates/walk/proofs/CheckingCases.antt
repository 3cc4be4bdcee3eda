-- 30 and 31, over bytes: what the code comes to in each branch is what the walk of the step that the reader finds there comes to.
use Prim.Native.Nat.{ℕ, suc, ◌+◌, ◌<◌}
use mathlib.Core.Path.{◌≡◌, refl, ap, ◌∙◌}
use mathlib.Core.List.{List, ◌∷◌}
use native.Mathlib.Omega.{arith}
use lib.ListN.{length}
use Rattle.procap.specs.declared.time.Time.{Time}
use Rattle.bl.specs.declared.CheckTag.{CheckTag}
use Rattle.bl.specs.declared.CheckTag.TheVariants.{OrOutTag, FalsityOutTag}
use Rattle.bl.specs.declared.FormulaTag.TheVariants.{OrTag}
use Rattle.bl.specs.Trees.{Formula, Check}
use Rattle.bl.specs.Policy.{Policy}
use Rattle.bl.specs.Rules.{Assumption, plain, shut, View}
use Rattle.bl.specs.Walk.{infer, check}
use Rattle.steps.specs.Ends.{ToldChecking}
use Rattle.ledger.specs.declared.Ledger.{Ledger}
use Rattle.ledger.specs.Books.{GoesOn, book, Sound}
use Rattle.formula.specs.declared.parts.Judgement.{Judgement}
use Rattle.formula.specs.Meaning.{Means, On}
use Rattle.judging.specs.declared.rows.Row.{Row}
use Rattle.judging.specs.declared.judge.Scope.{Scope}
use Rattle.judging.specs.declared.judge.Inferred.{Inferred}
use Rattle.judging.specs.declared.judge.Checked.{Checked}
use Rattle.judging.specs.declared.judge.Sides.{Sides}
use Rattle.judging.specs.RowsOf.{RowIs, is_plain}
use Rattle.judging.specs.RowNumbers.{numbers_of_row, rows_with}
use Rattle.judging.proofs.RowLaws.{row_again}
use Rattle.judging.specs.Judging.{view_in, scope_with, plain_side, and_then, sides, TwoSided, branches}
use Rattle.judging.specs.StepPromises.{TakesSidesInferred, StaysStopped, ChecksFalsity}
use Rattle.walk.specs.Walking.{Sources, Around, KeepsAsRead, InfersAt, ChecksAt, ChecksBy}
use Rattle.steps.proofs.StepsRead.{OrOutRead, or_out_read, falsity_out_read}
use Rattle.judging.proofs.StepWalks.{or_out_walk, falsity_out_walk}
use Rattle.judging.proofs.Coming.{Comes, comes_taken, comes_inferred, comes_checked, comes_or_stays, passes_halted, passes_then}
use Rattle.judging.proofs.JudgingLaws.{takes_then}
use Rattle.walk.proofs.Inferring.{first_part}
use Rattle.walk.proofs.Assuming.{part_assuming}
use Rattle.walk.proofs.Checking.{told_is}
use Rattle.procap.specs.declared.fact.Fact.{Fact}

-- What is on an interval is on the same interval under other names.
same_interval : {bytes : List ℕ} {j : Judgement} {A : Formula} {a b c d : Time} → a ≡ c → b ≡ d → On bytes j A a b → On bytes j A c d
same_interval e f on = record { means = on.means; from = on.from ∙ e; to = on.to ∙ f }

module _ (S : Sources) (rows : List ℕ) (scope : Scope) (ledger : Ledger) (list : List Fact) (goal_bytes : List ℕ) (goal : Judgement) (left at : ℕ) where
  -- The view of the steps here.
  abbrev view : View
  view = view_in scope.view

  -- The step here, by its tag.
  abbrev By : CheckTag → Checked → List Fact → Type 0
  By tag r list' = ChecksBy S rows scope ledger list left tag goal_bytes goal at r list'

  -- Both have a part that infers after their tag.
  module _ {begin : ℕ} (begins : at < length S.proof → begin ≡ at + 1) {inferred : Inferred} {list₁ : List Fact}
      (infers : InfersAt S rows scope ledger list left begin inferred list₁) where
    -- 31: that it is falsity.
    pub check_falsity : {r : Checked} → ChecksFalsity S.buffer at inferred r → By FalsityOutTag r list₁
    unfolding ToldChecking
    check_falsity h π Γ N e sound around reads told G means =
        let found = falsity_out_read S.proof (length π.statements) left scope.count at N e reads in
        rw (found.is, falsity_out_walk π Γ view at G goal.from goal.to found.part)
        (h S.state (book ledger list) _ e list₁
        (first_part S rows scope ledger list left at begins infers π Γ found.part e sound around found.reads (told_is S.ends found.is told)))

    -- 30: both sides of what it infers, and then a step for each with that side assumed.
    module _ {parts : Sides} (has : TakesSidesInferred S.buffer at OrTag inferred parts) (stays : StaysStopped inferred parts.ledger) where
      -- The row that a side is assumed by, from where it begins.
      abbrev side_row : ℕ → Row
      side_row begin = let j = inferred.judgement in plain_side j begin j.from j.to

      branches_come : (π : Policy) (Γ : List Assumption) (N : Check) (e : ℕ) → Sound (book ledger list) → Around S rows scope (suc left) π Γ
          → (found : OrOutRead S.proof (length π.statements) left scope.count at N e) → ToldChecking S.ends N
          → Comes S.state (book ledger list) (and_then (infer π Γ view found.part) (branches at)) (book parts.ledger list₁)
          (λ x. RowIs S.buffer (side_row parts.first) 0 0 x.0 × RowIs S.buffer (side_row parts.second) 0 0 x.1 × (inferred.next ≡ found.middle))
      unfolding branches sides TwoSided ToldChecking
      branches_come π Γ N e sound around found told =
          let part =
          comes_inferred S.state S.buffer (book ledger list) _ found.middle inferred list₁
          (first_part S rows scope ledger list left at begins infers π Γ found.part found.middle sound around found.part_reads (told_is S.ends found.is told).0) in
          comes_or_stays S.state (book ledger list) (book inferred.ledger list₁) _ _ part (book parts.ledger list₁) (shut, shut)
          (λ going j so. comes_taken S.state list₁ (branches at j) at inferred.ledger parts.ledger _ (shut, shut) part.gives.sound
          (takes_then (branches at j) (λ x. (plain x.0 j.1 j.2, plain x.1 j.1 j.2)) refl
          (λ x on. (is_plain refl (λ h. omega arith) (same_interval so.0.from so.0.to on.0), is_plain refl (λ h. omega arith) (same_interval so.0.from so.0.to on.1), so.1))
          (has going j.0 tt so.0.means)))
          (λ n. ap (λ l. book l list₁) (stays n))

      -- Where it is no "or", or the walk has stopped before.
      pub check_cases_unfit : (GoesOn parts.ledger → ⊥) → {next : ℕ} → By OrOutTag (record { ledger = parts.ledger; next = next }) list₁
      check_cases_unfit n {next} π Γ N e sound around reads told G means =
          let found = or_out_read S.proof (length π.statements) left scope.count at N e reads in
          rw (found.is, or_out_walk π Γ view at G goal.from goal.to found.part found.one found.other)
          (passes_halted S.state (book ledger list) _ parts.ledger list₁ (branches_come π Γ N e sound around found told) _ e n next)

      -- The first branch, with the left side assumed.
      module _ (going : GoesOn parts.ledger) {between more : List ℕ} (kept : KeepsAsRead scope.count rows between)
          (put : more ≡ rows_with between scope.count (side_row parts.first)) (all : length more ≡ length between) {one : Checked} {list₂ : List Fact}
          (checks : ChecksAt S more (scope_with scope) parts.ledger list₁ left goal_bytes goal inferred.next one list₂) where
        one_comes : (π : Policy) (Γ : List Assumption) (N : Check) (e : ℕ) → Sound (book parts.ledger list₁) → Around S rows scope (suc left) π Γ
            → (found : OrOutRead S.proof (length π.statements) left scope.count at N e) → ToldChecking S.ends N → inferred.next ≡ found.middle
            → (x : Assumption) → RowIs S.buffer (side_row parts.first) 0 0 x → (G : Formula) → Means goal_bytes 0 goal.formula G
            → Comes S.state (book parts.ledger list₁) (check π (x ∷ Γ) view found.one G goal.from goal.to) (book one.ledger list₂) (λ _. one.next ≡ found.later)
        unfolding ToldChecking
        one_comes π Γ N e sound around found told begins x is G means =
            comes_checked S.state (book parts.ledger list₁) _ found.later one list₂
            (part_assuming S rows scope left goal_bytes goal (numbers_of_row (side_row parts.first)) kept put all parts.ledger list₁ inferred.next checks
            π Γ found.one found.later sound around (rw begins found.one_reads) (told_is S.ends found.is told).1 x (rw (row_again (side_row parts.first)) is) G means)

        pub check_cases_stopped : (GoesOn one.ledger → ⊥) → By OrOutTag one list₂
        check_cases_stopped n π Γ N e sound around reads told G means =
            let found = or_out_read S.proof (length π.statements) left scope.count at N e reads in
            rw (found.is, or_out_walk π Γ view at G goal.from goal.to found.part found.one found.other)
            (passes_then S.state (book ledger list) _ parts.ledger list₁ (branches_come π Γ N e sound around found told) _ e going one list₂
            (λ sound x so. passes_halted S.state (book parts.ledger list₁) _ one.ledger list₂
            (one_comes π Γ N e sound around found told so.2 x.0 so.0 G means) _ e n one.next))

        -- And then the second, with the right side assumed.
        pub check_cases : GoesOn one.ledger → {between₂ more₂ : List ℕ} → KeepsAsRead scope.count rows between₂
            → more₂ ≡ rows_with between₂ scope.count (side_row parts.second) → length more₂ ≡ length between₂ → {other : Checked} {list₃ : List Fact}
            → ChecksAt S more₂ (scope_with scope) one.ledger list₂ left goal_bytes goal one.next other list₃
            → By OrOutTag other list₃
        unfolding ToldChecking
        check_cases goes kept₂ put₂ all₂ {other} {list₃} checks₂ π Γ N e sound around reads told G means =
            let found = or_out_read S.proof (length π.statements) left scope.count at N e reads in
            rw (found.is, or_out_walk π Γ view at G goal.from goal.to found.part found.one found.other)
            (passes_then S.state (book ledger list) _ parts.ledger list₁ (branches_come π Γ N e sound around found told) _ e going other list₃
            (λ sound x so. passes_then S.state (book parts.ledger list₁) _ one.ledger list₂
            (one_comes π Γ N e sound around found told so.2 x.0 so.0 G means) _ e goes other list₃
            (λ sound y ends. part_assuming S rows scope left goal_bytes goal (numbers_of_row (side_row parts.second)) kept₂ put₂ all₂ one.ledger list₂ one.next checks₂
            π Γ found.other e sound around (rw ends found.other_reads) (told_is S.ends found.is told).2 x.1 (rw (row_again (side_row parts.second)) so.1) G means)))
