-- Too many records are refused, and so is the first malformed one, since those before it were taken; at the end of the loop all are taken.
use mathlib.Core.Path.{◌≡◌, ap, ◌∙◌}
use lib.ListN.{length}
use native.Mathlib.Omega.{arith}
use Rattle.procap.proofs.Telling.{holds_else, fails_where}
use Rattle.judging.proofs.RowLaws.{row_there, others_stay}
use Rattle.verifier.proofs.CertificateLaws.{none_taken, taken_malformed, one_taken, all_taken, none_stated, too_many}
use Rattle.verifier.proofs.certificates.take_records.Goals as goal

pub returns-then-certificates-gt-MOST_CERTIFICATES : goal.returns-then-certificates-gt-MOST_CERTIFICATES
returns-then-certificates-gt-MOST_CERTIFICATES c = too_many _ _ _ c.if-certificates-gt-MOST_CERTIFICATES.true

pub loop-index-init : goal.loop-index-init
loop-index-init c = none_taken _ _ _ c.if-certificates-gt-MOST_CERTIFICATES.false

pub returns-then-not-well_formed : goal.returns-then-not-well_formed
returns-then-not-well_formed c =
    let told = c.well_formed-in-loop-index in
    none_stated _ _ _ _ (taken_malformed _ _ _ _ (omega arith) c.loop-index.invariant (fails_where told.result c.if-not-well_formed.true-raw told.ensures))

pub loop-index-preserved : goal.loop-index-preserved
loop-index-preserved c =
    let put = c.put_row in
    let row = c.row_of in
    let told = c.well_formed-in-loop-index in
    let taken = c.loop-index.invariant in
    let full = ap (λ r. length r.judgement.formula.terms.numbers) row.ensures in
    one_taken _ _ _ _ (omega arith) taken (holds_else told.result c.if-not-well_formed.false-raw told.ensures)
    (row_there _ _ _ put.ensures (omega arith) (omega (arith, taken.few)) full ∙ row.ensures)
    (others_stay _ _ _ put.ensures full)

pub returns : goal.returns
returns c =
    let all : c.loop-index.index ≡ length c.args.certificates.now = omega arith in
    all_taken _ _ _ (rw all at c.loop-index.invariant)
