-- A part that is checked with one assumption more: its row was put past those that stand around, and those are kept.
use Prim.Native.Nat.{ℕ, suc}
use mathlib.Core.Path.{◌≡◌}
use mathlib.Core.List.{List, ◌∷◌}
use Rattle.std.specs.Prelude.{Some}
use native.Mathlib.Omega.{arith}
use native.Mathlib.Numerals.{add-one}
use lib.ListN.{length}
use Rattle.bl.specs.Trees.{Formula, Check}
use Rattle.bl.specs.Policy.{Policy}
use Rattle.bl.specs.Rules.{Assumption}
use Rattle.bl.specs.Steps.{check_step}
use Rattle.bl.specs.Walk.{check}
use Rattle.steps.specs.Ends.{ToldChecking}
use Rattle.ledger.specs.declared.Ledger.{Ledger}
use Rattle.ledger.specs.Books.{book, Sound}
use Rattle.formula.specs.declared.parts.Judgement.{Judgement}
use Rattle.formula.specs.Meaning.{Means}
use Rattle.judging.specs.declared.rows.RowNumbers.{RowNumbers}
use Rattle.judging.specs.declared.judge.Scope.{Scope}
use Rattle.judging.specs.declared.judge.Checked.{Checked}
use Rattle.judging.specs.RowsOf.{row_of, RowIs}
use Rattle.judging.specs.RowNumbers.{rows_put}
use Rattle.judging.specs.Judging.{view_in, scope_with, Passes}
use Rattle.walk.specs.Walking.{Sources, Around, KeepsAsRead, ChecksAt}
use Rattle.walk.proofs.Surroundings.{around_more, around_kept, keeps_as_read, scope_more, keeps_others}
use Rattle.procap.specs.declared.fact.Fact.{Fact}

module _ (S : Sources) (rows : List ℕ) (scope : Scope) (left : ℕ) (goal_bytes : List ℕ) (goal : Judgement)
    {between more : List ℕ} (row : RowNumbers) (kept : KeepsAsRead scope.count rows between) (put : more ≡ rows_put between scope.count row) (all : length more ≡ length between)
    (ledger : Ledger) (list : List Fact) (at : ℕ) {r : Checked} {list' : List Fact}
    (checks : ChecksAt S more (scope_with scope) ledger list left goal_bytes goal at r list') where
  pub part_assuming : (π : Policy) (Γ : List Assumption) (N : Check) (e : ℕ) → Sound (book ledger list) → Around S rows scope (suc left) π Γ
      → check_step S.proof (length π.statements) left (suc scope.count) at ≡ Some (N, e) → ToldChecking S.ends N
      → (x : Assumption) → RowIs S.buffer (row_of row) 0 0 x → (G : Formula) → Means goal_bytes 0 goal.formula G
      → Passes S.state (book ledger list) (check π (x ∷ Γ) (view_in scope.view) N G goal.from goal.to) e r list'
  part_assuming π Γ N e sound around reads told x is G means =
      let room = around.room in
      let around' = around_kept S rows between scope (suc left) π Γ kept around in
      let more_around = around_more S between scope left π Γ around' more row x is put (keeps_as_read (keeps_others scope.count between row put all)) in
      (rw (scope_more scope (omega arith)) at checks) π (x ∷ Γ) N e sound more_around (rw (add-one scope.count) reads) told G means
