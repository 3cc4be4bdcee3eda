-- What is copied over as many of the list's numbers is stored there.
use Rattle.std.proofs.Common.{arith}
use Rattle.std.proofs.lemmas.Grind.{common_steps}
use Rattle.std.proofs.Math.Seq.{sets-eq}
use Rattle.ledger.proofs.numbers.put_numbers.Goals as goal

pub returns : goal.returns
returns c = grind (arith, common_steps, sets-eq c.args.numbers.now c.args.facts.now c.args.at (omega arith))
