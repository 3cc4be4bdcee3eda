-- The three lines are read one after another, and the first that does not read breaks the form.
use Rattle.text.proofs.Forms.{broken_on}
use Rattle.cases.proofs.Headings.{by_breaks, from_breaks, to_breaks, heading_read}
use Rattle.cases.proofs.reader.CaseReader.heading.Goals as goal

pub returns-in_err-by : goal.returns-in_err-by
returns-in_err-by c = broken_on _ _ _ _ c.from_residual.ensures.1 (by_breaks c.args.self.now _ c.in_err-by.ensures.reads)

pub returns-in_err-from : goal.returns-in_err-from
returns-in_err-from c = broken_on _ _ _ _ c.from_residual-in_err-from.ensures.1 (from_breaks c.args.self.now c.in_ok-by.ensures.reads _ c.in_err-from.ensures)

pub returns-in_err-to : goal.returns-in_err-to
returns-in_err-to c =
    broken_on _ _ _ _ c.from_residual-in_err-to.ensures.1 (to_breaks c.args.self.now c.in_ok-by.ensures.reads c.in_ok-from.ensures _ c.in_err-to.ensures)

pub returns : goal.returns
returns c = heading_read c.args.self.now c.in_ok-by.ensures.reads c.in_ok-from.ensures c.in_ok-to.ensures
