-- A malformed case refuses, and so does the answer that stopped the walk; else what its ledger keeps is issued.
use mathlib.Core.Path.{refl, sym}
use Rattle.std.proofs.lemmas.Result.{err_from_is_err_and}
use Rattle.verifier.proofs.Answers.{verify_refused, verify_stopped, verify_issued}
use Rattle.verifier.proofs.verify.procap_for.Goals as goal

pub returns-in_err-read_case : goal.returns-in_err-read_case
returns-in_err-read_case c =
    let p = err_from_is_err_and c.from_residual.result c.from_residual.ensures.1 in
    rw (p.1, p.2) (verify_refused _ _ _ _ _ _ c.in_err-read_case.ensures.stops)

pub returns-in_err-stop : goal.returns-in_err-stop
returns-in_err-stop c =
    let failed = c.from_residual-in_err-stop in
    let p = err_from_is_err_and failed.result failed.ensures.1 in
    rw (p.1, p.2)
    (verify_stopped _ _ _ _ _ c.in_ok-read_case.ensures _ _ _ _ _ c.none-facts.ensures c.walked-ledger.ensures refl _ (sym c.in_err-stop.ensures))

pub returns : goal.returns
returns c =
    verify_issued _ _ _ _ _ c.in_ok-read_case.ensures _ _ _ _ _ c.none-facts.ensures c.walked-ledger.ensures refl (sym c.in_ok-stop.ensures) _ c.issued.ensures
