-- The principal's own mark is all where it has no row, and else is joined with its row.
use Rattle.strength.proofs.Reaching.{reached_alone, reached_with_row}
use Rattle.strength.proofs.table.Strengths.reached_from.Goals as goal

pub returns-in-Some : goal.returns-in-Some
returns-in-Some c = reached_with_row _ _ _ c.known_place_of.ensures _ c.in-Some.ensures

pub returns-in-None : goal.returns-in-None
returns-in-None c = reached_alone _ _ _ c.known_place_of.ensures c.in-None.ensures
