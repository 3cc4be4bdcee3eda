-- The request and the line of the count are read one after another, and the case says what the rest says.
use Rattle.text.proofs.Forms.{broken_on}
use Rattle.cases.proofs.WholeCases.{request_broken, no_certs, case_says}
use Rattle.cases.proofs.reader.CaseReader.case.Goals as goal

pub returns-in_err-request : goal.returns-in_err-request
returns-in_err-request c =
    broken_on _ _ _ _ c.from_residual.ensures.1 (request_broken c.args.self.now _ c.in_err-request.ensures)

pub returns-in_err-count : goal.returns-in_err-count
returns-in_err-count c =
    broken_on _ _ _ _ c.from_residual-in_err-count.ensures.1 (no_certs c.args.self.now c.in_ok-request.ensures _ c.in_err-count.ensures.reads)

pub returns : goal.returns
returns c = rw (case_says c.args.self.now c.in_ok-request.ensures c.in_ok-count.ensures.reads) c.case_with.ensures
