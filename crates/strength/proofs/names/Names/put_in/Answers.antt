-- The count comes first, and the names are copied behind it.
use native.Mathlib.Omega.{arith}
use Rattle.strength.proofs.NamesTaken.{behind_count}
use Rattle.strength.proofs.names.Names.put_in.Goals as goal

pub returns : goal.returns
returns c = rw c.copy_from_slice.ensures.after (behind_count c.args.numbers.now c.args.self.now.numbers c.args.self.now.count (omega arith))
