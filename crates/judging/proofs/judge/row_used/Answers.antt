-- A plain row is used unless it is shut out, and a claim in the view of its principal.
use native.Mathlib.Omega.{arith}
use mathlib.Core.Path.{refl, ap, ◌∙◌}
use Rattle.judging.proofs.RowsUsed.{shut_row, plain_row, claim_row}
use Rattle.judging.proofs.judge.row_used.Goals as goal

pub returns-then-index-ge-MOST_ROWS : goal.returns-then-index-ge-MOST_ROWS
returns-then-index-ge-MOST_ROWS c = λ state buffer list ps x s few strong row. absurd (omega (arith, c.if-index-ge-MOST_ROWS.true))

pub returns-then-index-scope : goal.returns-then-index-scope
returns-then-index-scope c =
    let whose = c.in-None.is in
    λ state buffer list ps x s few strong row.
    shut_row ps _ _ _ s (rw (← c.row_at-whose.ensures) at row) whose c.if-index-scope.true
    (ap (λ r. r.ledger) c.nothing-then-index-scope.ensures ∙ c.misfit-then-index-scope.ensures)

pub returns-else-index-scope : goal.returns-else-index-scope
returns-else-index-scope c =
    λ state buffer list ps x s few strong row.
    plain_row ps _ _ _ s (rw (← c.row_at-whose.ensures) at row) c.in-None.is c.if-index-scope.false refl refl refl

pub returns-in-Some : goal.returns-in-Some
returns-in-Some c =
    λ state buffer list ps x s few strong row.
    claim_row ps _ _ _ s (rw (← c.row_at-whose.ensures) at row) c.in-Some.is (c.in_view.ensures ps strong state list s) refl refl
