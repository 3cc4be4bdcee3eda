-- The index counts back from the latest assumption; its row is that assumption, used as it stands.
use native.Mathlib.Omega.{arith}
use mathlib.Core.Path.{refl, ◌∙◌}
use Rattle.judging.proofs.RowsUsed.{index_is, local_used}
use Rattle.judging.proofs.judge.local.Goals as goal

pub returns-then-scope-back : goal.returns-then-scope-back
returns-then-scope-back c =
    λ state buffer list ps Γ i e s strong assumed few byte below.
    absurd (omega (arith, c.index_at-back.ensures ∙ index_is _ _ i e byte, c.if-scope-back.true))

pub returns : goal.returns
returns c =
    λ state buffer list ps Γ i e s strong.
    local_used ps _ _ _ _ _ c.past.ensures.there c.past-next.ensures.there _ _ _ Γ refl c.index_at-back.ensures
    (λ x few. c.row_used.ensures state buffer list ps x s few strong)
