-- The strengths that pairs give: the strongers, the weakers, and a mark for each two of them.
use Rattle.std.specs.Prelude.{ℕ, ◌≡◌, Bool, List, [], ◌⊎◌, Option, None, Some, take, replicate}
use Rattle.std.specs.Borrow.{Bor}
use Rattle.std.specs.Option.{option_copied}
use Rattle.procap.specs.Lists.{In}
use Rattle.procap.specs.Tells.{Tells}
use Rattle.rising.specs.Rising.{below}
use Rattle.bl.specs.Strength.{Pair, most_pairs, AsStrong}
use Rattle.strength.specs.declared.names.Names.{Names}
use Rattle.strength.specs.declared.table.Strengths.{Strengths}
use Rattle.strength.specs.Marks.{Marked}

-- The names that stand in order.
abbrev pub names : Names → List ℕ
names ordered = take ordered.count ordered.numbers

-- Nobody is marked yet.
abbrev pub Unmarked : Strengths → Type 0
Unmarked s = s.marks ≡ replicate most_pairs 0

-- No name stands there.
pub record Nameless (s : Strengths) : Type 0 where
  pub above : names s.strongers ≡ []
  pub under : names s.weakers ≡ []

-- The mark of two principals, where their names stand.
abbrev pub MarkOf : Strengths → ℕ → ℕ → Type 0
MarkOf s k j = Marked s.marks (below k (names s.strongers)) (below j (names s.weakers))

-- A principal is marked above another.
pub record MarkedAbove (s : Strengths) (k j : ℕ) : Type 0 where
  pub stronger : In k (names s.strongers)
  pub weaker : In j (names s.weakers)
  pub marked : MarkOf s k j

-- Such marks are the strengths that the pairs give: they put one principal above another where the pairs make it as strong, and
-- only there.
pub record Gives (ps : List Pair) (Above : ℕ → ℕ → Type 0) : Type 0 where
  pub told : (k j : ℕ) → AsStrong ps k j → (k ≡ j) ⊎ Above k j
  pub only : (k j : ℕ) → Above k j → AsStrong ps k j

-- The strengths that were found are those of the pairs.
abbrev pub StrengthsOf : Strengths → List Pair → Type 0
StrengthsOf s ps = Gives ps (MarkedAbove s)

-- Strengths that are lent, or none.
abbrev pub StrengthsLent : Type 0
StrengthsLent = Option (Bor Strengths)

-- A principal is marked above another in what is lent; where nothing is, nobody is.
abbrev pub LentAbove : StrengthsLent → ℕ → ℕ → Type 0
LentAbove None k j = ⊥
LentAbove (Some s) k j = MarkedAbove s.now k j

-- The strengths that are lent are those of the pairs.
abbrev pub LentStrengthsOf : StrengthsLent → List Pair → Type 0
LentStrengthsOf lent ps = Gives ps (LentAbove lent)

-- What was handed back, strengths or none, is those of the pairs wherever it is lent.
abbrev pub HandedStrengthsOf : Option Strengths → List Pair → Type 0
HandedStrengthsOf handed ps = (lent : StrengthsLent) → option_copied lent ≡ handed → LentStrengthsOf lent ps

-- A flag tells whether a principal is at least as strong as another, by the strengths that are lent.
abbrev pub TellsStrength : StrengthsLent → ℕ → ℕ → Bool → Type 0
TellsStrength lent k j r = (ps : List Pair) → LentStrengthsOf lent ps → Tells r (AsStrong ps k j)
