-- By cases: without room, or where the fact stands in the list, the list stays; else the fact goes to its end.
use mathlib.Core.Path.{◌∙◌}
use Rattle.ledger.proofs.Asked.{list_full, list_has, list_lacks}
use Rattle.ledger.proofs.list_fact.Goals as goal
use Rattle.ledger.proofs.list_fact.Goals.{else-has_room-via-then-has_room+else-not-has, else-has_room-via-else-has_room}

pub returns-then-not-has : goal.returns-then-not-has
returns-then-not-has c = c.put.ensures ∙ list_lacks _ _ c.if-has_room.ensures c.if-not-has.ensures

pub returns-else-has_room : goal.returns-else-has_room
returns-else-has_room c =
    elim c.else-has_room.branch [
      | else-has_room-via-then-has_room+else-not-has w ↦ list_has _ _ w.if-has_room.ensures w.if-not-has.ensures
      | else-has_room-via-else-has_room w ↦ list_full _ _ w.if-has_room.ensures
    ]
