-- The strengths that pairs give, as numbers: the strongers, the weakers, and a mark for each two of them.
use Rattle.std.specs.Prelude.{ℕ, ◌+◌, ◌*◌, ◌/◌, ◌%◌, ◌^◌, ◌≤◌, ◌≡◌, Bool, List, [], ◌∷◌, ◌++◌, ◌⊎◌, Option, length, get_or, take, drop, replicate}
use Rattle.procap.specs.Lists.{In}
use Rattle.procap.specs.Tells.{Tells}
use Rattle.rising.specs.Rising.{Rising, below}
use Rattle.bl.specs.Strength.{Pair, AsStrong, pairs_of, most_pairs}
use Rattle.strength.specs.declared.names.Names.{Names}
use Rattle.strength.specs.declared.table.Strengths.{Strengths}
use Rattle.strength.specs.Marks.{Bit}
use Rattle.strength.specs.Strengths.{HandedStrengthsOf}
use Rattle.strength.specs.Strengths as table

-- How many numbers a list of names takes: its count, and the names.
abbrev pub names_numbers : ℕ
names_numbers = 129

-- Where the marks begin, behind both lists.
abbrev pub marks_at : ℕ
marks_at = 258

-- How many numbers the strengths take: the strongers, the weakers, and two words of marks for each stronger.
abbrev pub strength_numbers : ℕ
strength_numbers = 514

-- The names of a counted list.
abbrev pub names : List ℕ → List ℕ
names numbers = take (get_or numbers 0 0) (drop 1 numbers)

-- A counted list of names is in order.
pub record Ordered (numbers : List ℕ) : Type 0 where
  pub size : length numbers ≡ names_numbers
  pub few : get_or numbers 0 0 ≤ most_pairs
  pub rising : Rising (names numbers)

-- The three parts of the strengths.
abbrev pub strongers : List ℕ → List ℕ
strongers numbers = take names_numbers numbers

abbrev pub weakers : List ℕ → List ℕ
weakers numbers = take names_numbers (drop names_numbers numbers)

abbrev pub marks : List ℕ → List ℕ
marks numbers = drop marks_at numbers

-- Both lists of names are in order.
pub record InOrder (numbers : List ℕ) : Type 0 where
  pub size : length numbers ≡ strength_numbers
  pub above : Ordered (strongers numbers)
  pub under : Ordered (weakers numbers)

-- The mark of a row and a column is set, of at most 128 columns: two words for each row.
abbrev pub Marked : List ℕ → ℕ → ℕ → Type 0
Marked words row column = Bit (get_or words (row * 2 + column / 64) 0) (column % 64)

-- The numbers mark a principal above another.
pub record MarkedAbove (numbers : List ℕ) (k j : ℕ) : Type 0 where
  pub size : length numbers ≡ strength_numbers
  pub stronger : In k (names (strongers numbers))
  pub weaker : In j (names (weakers numbers))
  pub marked : Marked (marks numbers) (below k (names (strongers numbers))) (below j (names (weakers numbers)))

-- The numbers are the strengths that the pairs give: they mark one principal above another where the pairs make it as strong, and
-- only there.
pub record StrengthsOf (numbers : List ℕ) (ps : List Pair) : Type 0 where
  pub ordered : length numbers ≡ strength_numbers → InOrder numbers
  pub told : (k j : ℕ) → AsStrong ps k j → (k ≡ j) ⊎ MarkedAbove numbers k j
  pub only : (k j : ℕ) → MarkedAbove numbers k j → AsStrong ps k j

-- A flag tells whether a principal is at least as strong as another, by the strengths that were found.
abbrev pub TellsStrength : List ℕ → ℕ → ℕ → Bool → Type 0
TellsStrength numbers k j r = (ps : List Pair) → StrengthsOf numbers ps → Tells r (AsStrong ps k j)

-- Zeros are made the strengths that the pairs give, unless these are too many.
unfoldable pub FindsStrengths : List ℕ → List ℕ → List ℕ → Type 0
FindsStrengths pairs zeros numbers = length pairs ≤ most_pairs → zeros ≡ replicate strength_numbers 0 → StrengthsOf numbers (pairs_of pairs)

-- The names are those of a counted list that is in order.
abbrev pub HasNames : List ℕ → Names → Type 0
HasNames numbers ks = Ordered numbers → table.names ks ≡ names numbers

-- What is handed back is strengths of whatever pairs the numbers are strengths of.
abbrev pub TakesNumbers : List ℕ → Option Strengths → Type 0
TakesNumbers numbers handed = (ps : List Pair) → StrengthsOf numbers ps → HandedStrengthsOf handed ps

-- Names as numbers: their count, the names, and what stands behind them.
abbrev pub counted : Names → List ℕ
counted ks = ks.count ∷ ks.numbers

-- How many words of marks there are.
abbrev pub mark_words : ℕ
mark_words = 256

-- Rows of marks as words, two for each, the lower 64 marks first.
abbrev pub words : List ℕ → List ℕ
words [] = []
words (row ∷ rows) = row % 2 ^ 64 ∷ row / 2 ^ 64 ∷ words rows

-- Strengths as numbers.
abbrev pub numbers_of : Strengths → List ℕ
numbers_of s = counted s.strongers ++ counted s.weakers ++ words s.marks

-- As many numbers as strengths take become the strengths of whatever pairs these are strengths of.
abbrev pub PutsStrengths : Strengths → List ℕ → List ℕ → Type 0
PutsStrengths s numbers more = length numbers ≡ strength_numbers → (ps : List Pair) → table.StrengthsOf s ps → StrengthsOf more ps
