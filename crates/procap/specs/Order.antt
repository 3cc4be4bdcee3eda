-- The order of two times: one table by the kind of the left and of the right time, with the page's rows in the page's order. It is read at a moment, and with the clock still open.
use Rattle.std.specs.Prelude.{ℕ, ◌≤◌, leb}
use Rattle.procap.specs.Tells.{pick}
use Rattle.procap.specs.declared.time.Time.{Time}
use Rattle.procap.specs.declared.time.Time.TheVariants.{Moment, MinusInfinity, PlusInfinity, Ctime}
use Rattle.procap.specs.declared.order.Decision.{Decision}
use Rattle.procap.specs.declared.order.Decision.TheVariants.{Holds, Fails, RaisesFrom, LowersTo}

-- [Readings, order] t <= u, with ctime read as the moment m.
abbrev pub AtMost : ℕ → Time → Time → Type 0
-- Ctime is not involved.
AtMost m (Moment k) (Moment j) = k ≤ j
AtMost m (Moment k) MinusInfinity = ⊥
AtMost m (Moment k) PlusInfinity = Unit {0}
AtMost m MinusInfinity (Moment j) = Unit {0}
AtMost m MinusInfinity MinusInfinity = Unit {0}
AtMost m MinusInfinity PlusInfinity = Unit {0}
AtMost m PlusInfinity (Moment j) = ⊥
AtMost m PlusInfinity MinusInfinity = ⊥
AtMost m PlusInfinity PlusInfinity = Unit {0}
-- An infinity settles it.
AtMost m MinusInfinity Ctime = Unit {0}
AtMost m PlusInfinity Ctime = ⊥
AtMost m Ctime MinusInfinity = ⊥
AtMost m Ctime PlusInfinity = Unit {0}
-- Ctime <= ctime holds.
AtMost m Ctime Ctime = m ≤ m
-- Otherwise it rests on the moment.
AtMost m (Moment k) Ctime = k ≤ m
AtMost m Ctime (Moment j) = m ≤ j

-- [Readings, order; D31, D32] What verify makes of t <= u while the clock is open.
abbrev pub decided : Time → Time → Decision
-- Ctime is not involved: decided at once.
decided (Moment k) (Moment j) = pick (leb k j) Holds Fails
decided (Moment k) MinusInfinity = Fails
decided (Moment k) PlusInfinity = Holds
decided MinusInfinity (Moment j) = Holds
decided MinusInfinity MinusInfinity = Holds
decided MinusInfinity PlusInfinity = Holds
decided PlusInfinity (Moment j) = Fails
decided PlusInfinity MinusInfinity = Fails
decided PlusInfinity PlusInfinity = Holds
-- An infinity settles it.
decided MinusInfinity Ctime = Holds
decided PlusInfinity Ctime = Fails
decided Ctime MinusInfinity = Fails
decided Ctime PlusInfinity = Holds
-- Ctime <= ctime holds.
decided Ctime Ctime = Holds
-- Otherwise from is raised or to is lowered.
decided (Moment k) Ctime = RaisesFrom k
decided Ctime (Moment j) = LowersTo j
