-- The records before the index are taken.
use Rattle.verifier.proofs.CertificateLaws.{TakenTo}
use Rattle.verifier.proofs.certificates.take_records.Given as goal

abbrev pub invariant-loop-index : goal.invariant-loop-index
invariant-loop-index l = TakenTo l.certificates l.buffer l.index l.rows
