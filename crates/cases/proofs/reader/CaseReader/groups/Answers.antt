-- The records of the groups read so far stand in the array and their formulas one after another, and the rest is still to be read.
use mathlib.Core.Path.{ap}
use lib.ListN.{replicate}
use Rattle.procap.specs.Lists.{pad}
use Rattle.bl.specs.Certificates.{most_certificates}
use Rattle.text.proofs.Forms.{broken_on}
use Rattle.cases.proofs.GroupsSoFar.{no_groups_yet, next_breaks, one_group_more, all_groups_read}
use Rattle.cases.proofs.reader.CaseReader.groups.Goals as goal

pub loop-i-init : goal.loop-i-init
unfolding pad
loop-i-init c = no_groups_yet _ c.requires.none (ap (replicate most_certificates) c.no_record-records.ensures)

pub returns-in_err-records : goal.returns-in_err-records
returns-in_err-records c =
    broken_on _ _ _ _ c.from_residual.ensures.1 (next_breaks c.loop-i.invariant c.loop-i-test.true _ c.in_err-records.ensures)

pub loop-i-preserved : goal.loop-i-preserved
loop-i-preserved c = one_group_more c.loop-i.invariant c.loop-i-test.true c.requires.few c.in_ok-records.ensures

pub returns : goal.returns
returns c = rw c.of.ensures (all_groups_read c.loop-i.invariant c.loop-i-test.false)
