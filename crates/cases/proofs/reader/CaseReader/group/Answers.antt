-- The heading is read, and then the line of hex from the place after it. Of the lines that break the form the first is handed back.
use mathlib.Core.Path.{ap}
use lib.ListN.{length}
use Rattle.text.proofs.Forms.{broken_on}
use Rattle.cases.proofs.GroupLaws.{heading_breaks, says_breaks, group_read}
use Rattle.cases.proofs.reader.CaseReader.group.Goals as goal

pub returns-in_err-heading : goal.returns-in_err-heading
returns-in_err-heading c = broken_on _ _ _ _ c.from_residual.ensures.1 (heading_breaks c.args.self.now _ c.in_err-heading.ensures)

pub returns-in_err-hex : goal.returns-in_err-hex
returns-in_err-hex c =
    broken_on _ _ _ _ c.from_residual-in_err-hex.ensures.1 (says_breaks c.args.self.now c.in_ok-heading.ensures _ c.in_err-hex.ensures)

pub returns : goal.returns
returns c =
    group_read c.args.self.now c.in_ok-heading.ensures c.in_ok-hex.ensures _ _ (ap length c.bytes-start.ensures) (ap length c.bytes.ensures)
