-- What stands around the parts of a step: the same with a level less, the plain ones shut out, or one assumption more.
-- A call writes no row below its count, so what stood around before it stands around after it.
use Rattle.std.specs.Prelude.{Option}
use Prim.Native.Nat.{ℕ, zero, suc, ◌≤◌, ◌<◌}
use mathlib.Core.Path.{◌≡◌, refl, ◌∙◌}
use mathlib.Core.List.{List, [], ◌∷◌, map}
use native.Mathlib.Omega.{arith}
use native.Mathlib.Numerals.{add-one}
use mathlib.Core.Bool.{Bool, true, false}
use borrow.Author.Tests.{lt-ltb}
use lib.Dec.{ltb}
use Rattle.procap.specs.Tells.{pick}
use Rattle.procap.specs.declared.fact.Fact.{Fact}
use lib.ListN.{length}
use Rattle.bl.specs.Policy.{Policy}
use Rattle.bl.specs.Rules.{Assumption, shut_out}
use Rattle.ledger.specs.declared.Ledger.{Ledger}
use Rattle.formula.specs.declared.parts.Judgement.{Judgement}
use Rattle.judging.specs.declared.rows.Row.{Row}
use Rattle.judging.specs.declared.judge.View.{View}
use Rattle.judging.specs.declared.judge.Scope.{Scope}
use Rattle.judging.specs.declared.judge.Checked.{Checked}
use Rattle.formula.specs.PutIn.{terms_numbers}
use Rattle.judging.specs.Judging.{one_more, scope_with}
use Rattle.judging.specs.RowsOf.{most_rows, row_of, row_in, RowIs, is_plain, is_claim, is_shut, Assumed}
use Rattle.judging.specs.declared.rows.RowNumbers.{RowNumbers}
use Rattle.judging.specs.RowNumbers.{rows_put}
use Rattle.judging.proofs.RowLaws.{row_of_there, earlier_numbers_stay, row_stays}
use Rattle.walk.specs.Walking.{Sources, Around, KeepsBy, Keeps, KeepsAsRead, ChecksAt}

-- A row inside of a says-in: a plain one is shut out, a claim stays.
row_shut : (buffer : List ℕ) (row : Row) (index before below : ℕ) (x : Assumption) → index < below → RowIs buffer row index before x → RowIs buffer row index below (shut_out x)
unfolding shut_out
row_shut buffer row index before below x h (is_plain plain-Row usable on) = is_shut plain-Row h
row_shut buffer row index before below x h (is_claim claimed on) = is_claim claimed on
row_shut buffer row index before below x h (is_shut plain-Row lower) = is_shut plain-Row h

-- The rows inside of a says-in.
assumed_shut : (buffer rows : List ℕ) (before below n : ℕ) (Γ : List Assumption) → n ≤ below → Assumed buffer rows before n Γ → Assumed buffer rows below n (map shut_out Γ)
unfolding Assumed
assumed_shut buffer rows before below zero [] h a = tt
assumed_shut buffer rows before below zero (x ∷ Γ) h a = absurd a
assumed_shut buffer rows before below (suc n) [] h a = absurd a
assumed_shut buffer rows before below (suc n) (x ∷ Γ) h a =
    (row_shut buffer (row_in rows n) n before below x (omega arith) a.0, assumed_shut buffer rows before below n Γ (omega arith) a.1)

-- The same assumptions in rows that are the same.
assumed_in : (buffer rows others : List ℕ) (below n : ℕ) (Γ : List Assumption) → ((i : ℕ) → i < n → row_in others i ≡ row_in rows i)
    → Assumed buffer rows below n Γ → Assumed buffer others below n Γ
unfolding Assumed
assumed_in buffer rows others below zero [] e a = tt
assumed_in buffer rows others below zero (x ∷ Γ) e a = absurd a
assumed_in buffer rows others below (suc n) [] e a = absurd a
assumed_in buffer rows others below (suc n) (x ∷ Γ) e a =
    (rw (e n (omega arith)) a.0, assumed_in buffer rows others below n Γ (λ i h. e i (omega arith)) a.1)

-- A usable row has all its numbers.
row_whole : (buffer : List ℕ) (row : Row) (index below : ℕ) (x : Assumption) → below ≤ index → RowIs buffer row index below x
    → length row.judgement.formula.terms.numbers ≡ terms_numbers
row_whole buffer row index below x h (is_plain plain-Row usable on) = on.means.few.room
row_whole buffer row index below x h (is_claim claimed on) = on.means.few.room
row_whole buffer row index below x h (is_shut plain-Row lower) = absurd (omega arith)

-- ── Rows that are kept ──

-- What one call and the next keep, both keep, whatever is read of a row.
pub keeps_then : {A : Type 0} {read : List ℕ → ℕ → A} {count : ℕ} {before between after : List ℕ} → KeepsBy read count before between
    → KeepsBy read count between after → KeepsBy read count before after
keeps_then first second = record { rows = λ i below. second.rows i below ∙ first.rows i below; all = second.all ∙ first.all }

-- What keeps the numbers of rows keeps the rows as they are read.
pub keeps_as_read : {count : ℕ} {before after : List ℕ} → Keeps count before after → KeepsAsRead count before after
keeps_as_read {count} {before} {after} keeps = record { rows = λ i below. row_stays before after i (keeps.rows i below); all = keeps.all }

-- A row that is put at the count leaves those below it.
pub keeps_others : (count : ℕ) (before : List ℕ) (row : RowNumbers) {after : List ℕ} → after ≡ rows_put before count row → length after ≡ length before → Keeps count before after
keeps_others count before row put all = record { rows = earlier_numbers_stay before count row put; all = all }

-- With one assumption more there are no fewer; and where a row has room, one more.
scope_grows : (scope : Scope) → scope.count ≤ (scope_with scope).count
unfolding scope_with
scope_grows scope = by (ltb scope.count most_rows)
  where
    by : (b : Bool) → scope.count ≤ (pick b (one_more scope) scope).count
    by true = omega arith
    by false = omega arith

pub scope_more : (scope : Scope) → scope.count < most_rows → scope_with scope ≡ one_more scope
unfolding scope_with
scope_more scope room = rw (lt-ltb scope.count most_rows room) refl

-- What is kept below a count is kept below a smaller one.
keeps_fewer : {A : Type 0} {read : List ℕ → ℕ → A} {fewer count : ℕ} {before after : List ℕ} → fewer ≤ count → KeepsBy read count before after
    → KeepsBy read fewer before after
keeps_fewer less keeps = record { rows = λ i l. keeps.rows i (omega arith); all = keeps.all }

-- A row is put, and then a call keeps the rows with one more: both keep those that were there before; and so of rows as they are read.
module _ (scope : Scope) (before : List ℕ) (row : RowNumbers) {more after : List ℕ} (put : more ≡ rows_put before scope.count row) (all : length more ≡ length before) where
  pub keeps_assumed : Keeps (scope_with scope).count more after → Keeps scope.count before after
  keeps_assumed after = keeps_then (keeps_others scope.count before row put all) (keeps_fewer (scope_grows scope) after)

  pub as_read_assumed : KeepsAsRead (scope_with scope).count more after → KeepsAsRead scope.count before after
  as_read_assumed after = keeps_then (keeps_as_read (keeps_others scope.count before row put all)) (keeps_fewer (scope_grows scope) after)

-- A row that is usable is so at its own index.
pub row_usable : (buffer : List ℕ) (row : Row) (index below : ℕ) (x : Assumption) → below ≤ index → RowIs buffer row 0 0 x → RowIs buffer row index below x
row_usable buffer row index below x h (is_plain plain-Row usable on) = is_plain plain-Row (λ lower. omega arith) on
row_usable buffer row index below x h (is_claim claimed on) = is_claim claimed on
row_usable buffer row index below x h (is_shut plain-Row lower) = absurd (omega arith)

module _ (S : Sources) (rows : List ℕ) (scope : Scope) (left : ℕ) (π : Policy) (Γ : List Assumption) (around : Around S rows scope (suc left) π Γ) where
  -- A level less.
  pub around_part : Around S rows scope left π Γ
  around_part =
      let room = around.room in
      record { policy = around.policy; assumed = around.assumed; shut_inside = around.shut_inside; room = omega arith; all_there = around.all_there }

  -- The part of a says-in.
  pub around_said : (view : Option View) → Around S rows (record { count = scope.count; shut = scope.count; view = view }) left π (map shut_out Γ)
  around_said view =
      let room = around.room in
      record {
        policy = around.policy;
        assumed = assumed_shut S.buffer rows scope.shut scope.count scope.count Γ (omega arith) around.assumed;
        shut_inside = omega arith;
        room = omega arith;
        all_there = around.all_there;
      }

  -- A part with one assumption more: the row is put past those that are there.
  pub around_more : (more : List ℕ) (row : RowNumbers) (x : Assumption) → RowIs S.buffer (row_of row) 0 0 x → more ≡ rows_put rows scope.count row → KeepsAsRead scope.count rows more
      → Around S more (one_more scope) left π (x ∷ Γ)
  unfolding Assumed
  around_more more row x usable put keeps =
      let room = around.room in
      let inside = around.shut_inside in
      let is = row_usable S.buffer (row_of row) scope.count scope.shut x inside usable in
      record {
        policy = around.policy;
        assumed =
            rw (add-one scope.count) (
              rw (row_of_there rows scope.count row put around.all_there (omega arith) (row_whole S.buffer (row_of row) scope.count scope.shut x inside is)) is,
              assumed_in S.buffer rows more scope.shut scope.count Γ keeps.rows around.assumed,
            );
        shut_inside = omega arith;
        room = omega arith;
        all_there = keeps.all ∙ around.all_there;
      }

-- What stands around, in rows that are kept.
pub around_kept : (S : Sources) (before after : List ℕ) (scope : Scope) (left : ℕ) (π : Policy) (Γ : List Assumption) → KeepsAsRead scope.count before after
    → Around S before scope left π Γ → Around S after scope left π Γ
around_kept S before after scope left π Γ keeps around =
    record {
      policy = around.policy;
      assumed = assumed_in S.buffer before after scope.shut scope.count Γ keeps.rows around.assumed;
      shut_inside = around.shut_inside;
      room = around.room;
      all_there = keeps.all ∙ around.all_there;
    }

-- So a call after another promises of the rows at the start what it promises of those that it finds.
pub checks_kept : (S : Sources) (before after : List ℕ) (scope : Scope) (ledger : Ledger) (list : List Fact) (left : ℕ) (goal_bytes : List ℕ) (goal : Judgement)
    (at : ℕ) {r : Checked} {list' : List Fact} → KeepsAsRead scope.count before after
    → ChecksAt S after scope ledger list left goal_bytes goal at r list'
    → ChecksAt S before scope ledger list left goal_bytes goal at r list'
checks_kept S before after scope ledger list left goal_bytes goal at keeps checks π Γ N e sound around =
    checks π Γ N e sound (around_kept S before after scope left π Γ keeps around)
