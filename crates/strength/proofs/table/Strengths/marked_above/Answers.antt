-- Of two principals that are found the mark tells; one that is not found is marked nowhere.
use Rattle.procap.proofs.Telling.{tells_by}
use Rattle.strength.proofs.Reaching.{mark_between}
use Rattle.strength.proofs.table.Strengths.marked_above.Goals as goal

pub returns : goal.returns
returns c =
    let both = mark_between _ _ _ _ _ c.in-Some.ensures c.in-Some-place_of.ensures in
    tells_by c.has_mark.result both.0 both.1 c.has_mark.ensures
