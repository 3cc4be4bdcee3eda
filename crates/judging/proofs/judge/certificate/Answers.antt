-- The row of the index is a claim of the certificate's principal, used as it stands.
use Rattle.judging.proofs.RowsUsed.{certificate_used}
use Rattle.judging.proofs.judge.certificate.Goals as goal

pub returns : goal.returns
returns c =
    λ state buffer list ps cs i e s strong.
    certificate_used ps _ _ _ _ _ c.past.ensures.there c.past-next.ensures.there _ c.index_at-index.ensures
    (λ x few. c.row_used.ensures state buffer list ps x s few strong)
