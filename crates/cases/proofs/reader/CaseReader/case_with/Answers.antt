-- The groups, the proof's line and the end of the input are read one after another, and the case says what they say. The bytes of the
-- proof are put right after those of the formulas.
use mathlib.Core.Path.{ap}
use lib.ListN.{length}
use Rattle.text.proofs.Forms.{broken_on}
use Rattle.cases.proofs.WholeCases.{groups_broken, no_proof, something_more, case_here}
use Rattle.cases.proofs.reader.CaseReader.case_with.Goals as goal

pub returns-in_err-certificates : goal.returns-in_err-certificates
returns-in_err-certificates c =
    broken_on _ _ _ _ c.from_residual.ensures.1 (groups_broken _ _ c.args.self.now _ c.in_err-certificates.ensures)

pub returns-in_err-hex : goal.returns-in_err-hex
returns-in_err-hex c =
    broken_on _ _ _ _ c.from_residual-in_err-hex.ensures.1 (no_proof _ _ c.args.self.now c.in_ok-certificates.ensures _ c.in_err-hex.ensures)

pub returns-in_err-end : goal.returns-in_err-end
returns-in_err-end c =
    broken_on _ _ _ _ c.from_residual-in_err-end.ensures.1
    (something_more _ _ c.args.self.now c.in_ok-certificates.ensures c.in_ok-hex.ensures _ c.in_err-end.ensures)

pub returns : goal.returns
returns c =
    case_here _ _ c.args.self.now c.in_ok-certificates.ensures c.in_ok-hex.ensures _ (ap length c.bytes-split.ensures) c.in_ok-end.ensures
