-- What the weaker one reaches is gained by the stronger one and by those above it.
use Rattle.strength.proofs.PairMore.{one_pair_more}
use Rattle.strength.proofs.table.Strengths.take_pair.Goals as goal

pub returns : goal.returns
returns c =
    one_pair_more _ _ _ c.reached_from-gained.result c.requires (rw c.weaker_of.ensures at c.reached_from-gained.ensures) (rw c.stronger_of.ensures at c.gain.ensures)
