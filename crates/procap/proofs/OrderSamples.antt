-- Orders of two times, decided: each as the page says, at the edges of its rows.
use mathlib.Core.Path.{◌≡◌, refl}
use mathlib.Core.List.{List, [], ◌∷◌}
use Rattle.procap.specs.Lists.{All}
use Rattle.procap.specs.Times.{earliest, latest}
use Rattle.procap.specs.Order.{decided}
use Rattle.procap.specs.declared.time.Time.{Time}
use Rattle.procap.specs.declared.time.Time.TheVariants.{Moment, MinusInfinity, PlusInfinity, Ctime}
use Rattle.procap.specs.declared.order.Decision.{Decision}
use Rattle.procap.specs.declared.order.Decision.TheVariants.{Holds, Fails, RaisesFrom, LowersTo}

-- Two times, and what verify makes of left <= right.
record Order : Type 0 where
  left : Time
  right : Time
  decision : Decision

abbrev orders : List Order
orders =
    -- Ctime is not involved: two moments at the edge and past it, and two infinities.
    record { left = Moment 1500; right = Moment 1500; decision = Holds }
    ∷
    record { left = Moment 1501; right = Moment 1500; decision = Fails }
    ∷
    record { left = MinusInfinity; right = PlusInfinity; decision = Holds }
    ∷
    record { left = PlusInfinity; right = MinusInfinity; decision = Fails }
    ∷
    -- An infinity settles it.
    record { left = MinusInfinity; right = Ctime; decision = Holds }
    ∷
    record { left = PlusInfinity; right = Ctime; decision = Fails }
    ∷
    record { left = Ctime; right = MinusInfinity; decision = Fails }
    ∷
    record { left = Ctime; right = PlusInfinity; decision = Holds }
    ∷
    -- Ctime <= ctime holds.
    record { left = Ctime; right = Ctime; decision = Holds }
    ∷
    -- Otherwise from is raised or to is lowered: no moment decides at once, not the earliest nor the latest.
    record { left = Moment earliest; right = Ctime; decision = RaisesFrom earliest }
    ∷
    record { left = Moment latest; right = Ctime; decision = RaisesFrom latest }
    ∷
    record { left = Ctime; right = Moment earliest; decision = LowersTo earliest }
    ∷
    record { left = Ctime; right = Moment latest; decision = LowersTo latest }
    ∷
    []

orders_decided : All (λ x. decided x.left x.right ≡ x.decision) orders
unfolding All
orders_decided = (refl, (refl, (refl, (refl, (refl, (refl, (refl, (refl, (refl, (refl, (refl, (refl, (refl, tt)))))))))))))
