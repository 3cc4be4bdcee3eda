-- The loop has the places left: a comparison of those from here is a comparison of all from the start.
use Prim.Native.Nat.{◌-◌, ◌≤◌}
use Rattle.formula.specs.declared.compare.Compared.{Compared}
use Rattle.formula.specs.Comparing.{PlacesOf}
use Rattle.formula.proofs.compare.Pair.same_places.Given as goal

abbrev pub invariant-loop : goal.invariant-loop
invariant-loop l =
    (l.counter ≤ l.count) × ((r : Compared) → PlacesOf l.self (l.count - l.counter) l.next l.now r → PlacesOf l.self l.count l.initial.next l.initial.now r)
