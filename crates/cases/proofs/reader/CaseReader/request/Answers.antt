-- The three lines are read from where the first begins, and end within the input.
use native.Mathlib.Omega.{arith}
use Rattle.cases.proofs.WentOn.{request_within}
use Rattle.cases.proofs.reader.CaseReader.request.Goals as goal

pub invariant_of-self : goal.invariant_of-self
invariant_of-self c =
    let further = request_within _ _ _ _ _ _ c.in_ok-request.ensures (omega arith) in
    (omega arith, further.1, omega arith, omega (arith, further.0))
