-- The record's own bytes are there, and it is read in them.
use Rattle.std.proofs.Common.{ap, ◌∙◌}
use borrow.Author.Tests.{le-leb}
use Rattle.from_c.specs.Records.{record_at, whole_record}
use Rattle.from_c.proofs.RecordParts.{whole_in_part}
use Rattle.from_c.proofs.records.CertificateInARow.at.Goals as goal

pub returns-in-Some : goal.returns-in-Some
unfolding record_at
returns-in-Some c =
    let own = c.in-Some.ensures.lookup.0 in
    rw (le-leb _ _ own.1) (c.whole_record.ensures ∙ ap (λ part. whole_record part 0) own.2 ∙ whole_in_part _ _ own.1)
