-- What the walk over the bytes promises: the walk of the tree that the bytes read as.
use Rattle.std.specs.Prelude.{ℕ, suc, ◌+◌, ◌≤◌, ◌<◌, ◌≡◌, List, length, Some}
use Rattle.bl.specs.declared.InferTag.{InferTag}
use Rattle.bl.specs.declared.CheckTag.{CheckTag}
use Rattle.bl.specs.Trees.{Formula, Infer, Check}
use Rattle.bl.specs.Policy.{Policy}
use Rattle.bl.specs.Rules.{Assumption}
use Rattle.bl.specs.Steps.{infer_step, check_step, infer_by, check_by, most_proof_levels}
use Rattle.bl.specs.Walk.{infer, check}
use Rattle.strength.specs.Strengths.{StrengthsLent, LentStrengthsOf}
use Rattle.steps.specs.Ends.{Told, ToldChecking}
use Rattle.ledger.specs.declared.Ledger.{Ledger}
use Rattle.formula.specs.declared.parts.Judgement.{Judgement}
use Rattle.judging.specs.declared.judge.Scope.{Scope}
use Rattle.judging.specs.declared.judge.Inferred.{Inferred}
use Rattle.judging.specs.declared.judge.Checked.{Checked}
use Rattle.ledger.specs.Books.{book, Sound}
use Rattle.formula.specs.Meaning.{Means}
use Rattle.judging.specs.RowsOf.{numbers_at, row_in, Assumed, Certified, all_numbers}
use Rattle.judging.specs.Judging.{view_in, Yields, Passes}
use Rattle.procap.specs.declared.fact.Fact.{Fact}

-- What is lent all through a walk: formulas, proof and state in bytes, certificates in rows, strengths if there are any, and where
-- second parts end.
pub record Sources : Type 0 where
  pub buffer : List ℕ
  pub proof : List ℕ
  pub state : List ℕ
  pub certificates : List ℕ
  pub strengths : StrengthsLent
  pub ends : List ℕ

-- The policy is what is lent: rows that are its certificates, and the strengths of its pairs.
pub record PolicyLent (buffer certificates : List ℕ) (strengths : StrengthsLent) (π : Policy) : Type 0 where
  pub certified : Certified buffer certificates π.statements
  pub strong : LentStrengthsOf strengths π.pairs

-- What stands around a step: the policy that is lent, and rows that are the assumptions Γ, none shut out that is yet to come,
-- with room for one more at each level left, in as many numbers as all rows take.
pub record Around (S : Sources) (rows : List ℕ) (scope : Scope) (left : ℕ) (π : Policy) (Γ : List Assumption) : Type 0 where
  pub policy : PolicyLent S.buffer S.certificates S.strengths π
  pub assumed : Assumed S.buffer rows scope.shut scope.count Γ
  pub shut_inside : scope.shut ≤ scope.count
  pub room : scope.count + left ≤ most_proof_levels
  pub all_there : length rows ≡ all_numbers

-- What is read of each row below a count is as it was, and as many numbers are there.
pub record KeepsBy {A : Type 0} (read : List ℕ → ℕ → A) (count : ℕ) (before after : List ℕ) : Type 0 where
  pub rows : (i : ℕ) → i < count → read after i ≡ read before i
  pub all : length after ≡ length before

-- The rows below a count are as they were, with each number of their times, and as many numbers are there.
abbrev pub Keeps : ℕ → List ℕ → List ℕ → Type 0
Keeps count before after = KeepsBy numbers_at count before after

-- The rows below a count are read as they were, on the times that their numbers stand for, and as many numbers are there.
abbrev pub KeepsAsRead : ℕ → List ℕ → List ℕ → Type 0
KeepsAsRead count before after = KeepsBy row_in count before after

module _ (S : Sources) (rows : List ℕ) (scope : Scope) (ledger : Ledger) (list : List Fact) (left : ℕ) where
  -- From a sound book, in what stands around.
  module _ (π : Policy) (Γ : List Assumption) where
    -- The step that the reader finds, inferred.
    abbrev pub InfersStep : Infer → ℕ → Inferred → List Fact → Type 0
    InfersStep M e r list' = Yields S.state S.buffer (book ledger list) (infer π Γ (view_in scope.view) M) e r list'

    -- The step that the reader finds, checked against a goal.
    abbrev pub ChecksStep : List ℕ → Judgement → Check → ℕ → Checked → List Fact → Type 0
    ChecksStep goal_bytes goal N e r list' =
        (G : Formula) → Means goal_bytes 0 goal.formula G
        → Passes S.state (book ledger list) (check π Γ (view_in scope.view) N G goal.from goal.to) e r list'

  -- A step that infers, at a place.
  abbrev pub InfersAt : ℕ → Inferred → List Fact → Type 0
  InfersAt at r list' =
      (π : Policy) (Γ : List Assumption) (M : Infer) (e : ℕ)
      → Sound (book ledger list) → Around S rows scope left π Γ
      → infer_step S.proof (length π.statements) left scope.count at ≡ Some (M, e) → Told S.ends M
      → InfersStep π Γ M e r list'

  -- A step that infers, by its tag at a place, over parts of at most `left` levels.
  abbrev pub InfersBy : InferTag → ℕ → Inferred → List Fact → Type 0
  InfersBy tag at r list' =
      (π : Policy) (Γ : List Assumption) (M : Infer) (e : ℕ)
      → Sound (book ledger list) → Around S rows scope (suc left) π Γ
      → infer_by S.proof (length π.statements) (infer_step S.proof (length π.statements) left) (check_step S.proof (length π.statements) left) scope.count at tag (at + 1) ≡ Some (M, e)
      → Told S.ends M
      → InfersStep π Γ M e r list'

  -- A step that checks, at a place.
  abbrev pub ChecksAt : List ℕ → Judgement → ℕ → Checked → List Fact → Type 0
  ChecksAt goal_bytes goal at r list' =
      (π : Policy) (Γ : List Assumption) (N : Check) (e : ℕ)
      → Sound (book ledger list) → Around S rows scope left π Γ
      → check_step S.proof (length π.statements) left scope.count at ≡ Some (N, e) → ToldChecking S.ends N
      → ChecksStep π Γ goal_bytes goal N e r list'

  -- A step that checks, by its tag at a place, over parts of at most `left` levels.
  abbrev pub ChecksBy : CheckTag → List ℕ → Judgement → ℕ → Checked → List Fact → Type 0
  ChecksBy tag goal_bytes goal at r list' =
      (π : Policy) (Γ : List Assumption) (N : Check) (e : ℕ)
      → Sound (book ledger list) → Around S rows scope (suc left) π Γ
      → check_by S.proof (length π.statements) (infer_step S.proof (length π.statements) left) (check_step S.proof (length π.statements) left) scope.count at tag (at + 1) ≡ Some (N, e)
      → ToldChecking S.ends N
      → ChecksStep π Γ goal_bytes goal N e r list'
