-- One name more is put behind those that were passed.
use native.Mathlib.Omega.{arith}
use Rattle.strength.proofs.NamesTaken.{one_passed}
use Rattle.strength.proofs.names.Names.of_numbers.Goals as goal

pub loop-name-preserved : goal.loop-name-preserved
loop-name-preserved c =
    let inv = c.loop-name.invariant in
    let put = c.put_name.ensures in
    (omega (arith, put.count, inv.0), one_passed _ _ _ _ (omega arith) inv.1 put.put)
