-- The order of two times as it was defined before request 2, by halves of the table: for every pair of times it is what the one table says.
use Prim.Native.Nat.{ℕ, ◌≤◌}
use mathlib.Core.Path.{◌≡◌, refl}
use lib.Dec.{leb}
use Rattle.procap.specs.Tells.{pick}
use Rattle.procap.specs.Order.{AtMost, decided}
use Rattle.procap.specs.declared.time.Time.{Time}
use Rattle.procap.specs.declared.time.Time.TheVariants.{Moment, MinusInfinity, PlusInfinity, Ctime}
use Rattle.procap.specs.declared.order.Decision.{Decision}
use Rattle.procap.specs.declared.order.Decision.TheVariants.{Holds, Fails, RaisesFrom, LowersTo}

-- What verify made of t <= u, as it was defined.
abbrev decided_before : Time → Time → Decision
decided_before MinusInfinity u = Holds
decided_before (Moment k) MinusInfinity = Fails
decided_before (Moment k) (Moment j) = pick (leb k j) Holds Fails
decided_before (Moment k) PlusInfinity = Holds
decided_before (Moment k) Ctime = RaisesFrom k
decided_before Ctime MinusInfinity = Fails
decided_before Ctime (Moment j) = LowersTo j
decided_before Ctime PlusInfinity = Holds
decided_before Ctime Ctime = Holds
decided_before PlusInfinity MinusInfinity = Fails
decided_before PlusInfinity (Moment j) = Fails
decided_before PlusInfinity PlusInfinity = Holds
decided_before PlusInfinity Ctime = Fails

pub every_decision_stays : (t u : Time) → decided t u ≡ decided_before t u
every_decision_stays MinusInfinity (Moment j) = refl
every_decision_stays MinusInfinity MinusInfinity = refl
every_decision_stays MinusInfinity PlusInfinity = refl
every_decision_stays MinusInfinity Ctime = refl
every_decision_stays (Moment k) (Moment j) = refl
every_decision_stays (Moment k) MinusInfinity = refl
every_decision_stays (Moment k) PlusInfinity = refl
every_decision_stays (Moment k) Ctime = refl
every_decision_stays PlusInfinity (Moment j) = refl
every_decision_stays PlusInfinity MinusInfinity = refl
every_decision_stays PlusInfinity PlusInfinity = refl
every_decision_stays PlusInfinity Ctime = refl
every_decision_stays Ctime (Moment j) = refl
every_decision_stays Ctime MinusInfinity = refl
every_decision_stays Ctime PlusInfinity = refl
every_decision_stays Ctime Ctime = refl

-- The order at the moment m, as it was defined.
abbrev SecondAtMost : ℕ → ℕ → Time → Type 0
SecondAtMost m k (Moment j) = k ≤ j
SecondAtMost m k MinusInfinity = ⊥
SecondAtMost m k PlusInfinity = Unit {0}
SecondAtMost m k Ctime = k ≤ m

abbrev IsPlusInfinity : Time → Type 0
IsPlusInfinity (Moment j) = ⊥
IsPlusInfinity MinusInfinity = ⊥
IsPlusInfinity PlusInfinity = Unit {0}
IsPlusInfinity Ctime = ⊥

abbrev AtMostBefore : ℕ → Time → Time → Type 0
AtMostBefore m (Moment k) u = SecondAtMost m k u
AtMostBefore m MinusInfinity u = Unit {0}
AtMostBefore m PlusInfinity u = IsPlusInfinity u
AtMostBefore m Ctime u = SecondAtMost m m u

pub every_order_stays : (m : ℕ) (t u : Time) → AtMost m t u ≡ AtMostBefore m t u
every_order_stays m MinusInfinity (Moment j) = refl
every_order_stays m MinusInfinity MinusInfinity = refl
every_order_stays m MinusInfinity PlusInfinity = refl
every_order_stays m MinusInfinity Ctime = refl
every_order_stays m (Moment k) (Moment j) = refl
every_order_stays m (Moment k) MinusInfinity = refl
every_order_stays m (Moment k) PlusInfinity = refl
every_order_stays m (Moment k) Ctime = refl
every_order_stays m PlusInfinity (Moment j) = refl
every_order_stays m PlusInfinity MinusInfinity = refl
every_order_stays m PlusInfinity PlusInfinity = refl
every_order_stays m PlusInfinity Ctime = refl
every_order_stays m Ctime (Moment j) = refl
every_order_stays m Ctime MinusInfinity = refl
every_order_stays m Ctime PlusInfinity = refl
every_order_stays m Ctime Ctime = refl
