-- The table of t <= t' by the kinds of both sides: the one pair of kinds that no row before the last names is ctime <= moment. `decide` takes both
-- sides in one match, which the check holds to be whole; this says of the table what was said of it before.
use Prim.Native.Nat.{ℕ, ◌+◌, ◌*◌}
use mathlib.Core.Bool.{true}
use mathlib.Core.Logic.{inl, inr}
use mathlib.Core.List.{List, [], ◌∷◌}
use mathlib.Core.Path.{◌≡◌, refl}
use native.Mathlib.Decide.{ℕ_discrete}
use Rattle.procap.specs.Lists.{In}
use Rattle.procap.specs.Numbered.{time_kind}
use Rattle.procap.specs.Deciding.{told, in?}
use Rattle.procap.specs.declared.time.Time.{Time}
use Rattle.procap.specs.declared.time.Time.TheVariants.{Moment, MinusInfinity, PlusInfinity, Ctime}
use Rattle.procap.proofs.Telling.{told_so}

-- The kinds of two times in one number, side by side in hex.
abbrev pub kinds_of : Time → Time → ℕ
kinds_of t u = 16 * time_kind t + time_kind u

-- A number is none of these.
abbrev pub NoneOf : List ℕ → ℕ → Type 0
NoneOf [] n = Unit {0}
NoneOf (k ∷ ks) n = NoneOf ks n × (n ≡ k → ⊥)

-- The pairs of the rows before the last, from the last of them to the first.
abbrev pub other_rows : List ℕ
other_rows = 0x14 ∷ 0x44 ∷ 0x43 ∷ 0x42 ∷ 0x34 ∷ 0x24 ∷ 0x33 ∷ 0x32 ∷ 0x31 ∷ 0x23 ∷ 0x22 ∷ 0x21 ∷ 0x13 ∷ 0x12 ∷ 0x11 ∷ []

none_in : (ks : List ℕ) (n : ℕ) → NoneOf ks n → In n ks → ⊥
unfolding In
none_in [] n h i = i
none_in (k ∷ ks) n h (inl e) = h.1 e
none_in (k ∷ ks) n h (inr i) = none_in ks n h.0 i

-- What is none of them is no pair k of theirs.
other : (k n : ℕ) → told (in? ℕ_discrete k other_rows) ≡ true → n ≡ k → NoneOf other_rows n → ⊥
other k n listed e h = none_in other_rows n h (rw e (told_so (in? ℕ_discrete k other_rows) listed))

-- The row that is left where no other is taken is ctime <= moment.
pub last_row : (t u : Time) (n : ℕ) → n ≡ kinds_of t u → NoneOf other_rows n → n ≡ 0x41
unfolding told in? ℕ_discrete
last_row (Moment k) (Moment j) n e h = absurd (other 0x11 n refl e h)
last_row (Moment k) MinusInfinity n e h = absurd (other 0x12 n refl e h)
last_row (Moment k) PlusInfinity n e h = absurd (other 0x13 n refl e h)
last_row (Moment k) Ctime n e h = absurd (other 0x14 n refl e h)
last_row MinusInfinity (Moment j) n e h = absurd (other 0x21 n refl e h)
last_row MinusInfinity MinusInfinity n e h = absurd (other 0x22 n refl e h)
last_row MinusInfinity PlusInfinity n e h = absurd (other 0x23 n refl e h)
last_row MinusInfinity Ctime n e h = absurd (other 0x24 n refl e h)
last_row PlusInfinity (Moment j) n e h = absurd (other 0x31 n refl e h)
last_row PlusInfinity MinusInfinity n e h = absurd (other 0x32 n refl e h)
last_row PlusInfinity PlusInfinity n e h = absurd (other 0x33 n refl e h)
last_row PlusInfinity Ctime n e h = absurd (other 0x34 n refl e h)
last_row Ctime (Moment j) n e h = e
last_row Ctime MinusInfinity n e h = absurd (other 0x42 n refl e h)
last_row Ctime PlusInfinity n e h = absurd (other 0x43 n refl e h)
last_row Ctime Ctime n e h = absurd (other 0x44 n refl e h)
