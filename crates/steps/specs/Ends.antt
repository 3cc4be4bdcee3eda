-- Where the second part of each step 26 ends: a table with a place for every three bytes of a proof, since two second parts begin at least three bytes apart.
-- The end is told by the tree alone: a step's bytes can be counted.
use Rattle.std.specs.Prelude.{ℕ, ◌+◌, ◌/◌, ◌≤◌, ◌≡◌, List, length, get_or, Some}
use Rattle.procap.specs.declared.time.Time.{Time}
use Rattle.procap.specs.declared.time.Time.TheVariants.{Moment, MinusInfinity, PlusInfinity, Ctime}
use Rattle.procap.specs.declared.fact.Term.{Term}
use Rattle.procap.specs.declared.fact.Term.TheVariants.{Name, When}
use Rattle.bl.specs.Trees.{Infer, local, certificate, first, second, apply, instance, Check, pair, trivial, at_in, at_out, says_in, says_out, state, compare, or_left, or_right, or_out, falsity_out, inferred, offset}
use Rattle.bl.specs.Steps.{proof_in}
use Rattle.procap.specs.Lent.{Lent, LentToWrite}

-- ── How many bytes a step takes ──

-- A time: its tag, and five bytes of a moment.
unfoldable pub time_bytes : Time → ℕ
time_bytes (Moment k) = 6
time_bytes MinusInfinity = 1
time_bytes PlusInfinity = 1
time_bytes Ctime = 1

-- A term: its tag, and two bytes of a name.
unfoldable pub term_bytes : Term → ℕ
term_bytes (Name n) = 3
term_bytes (When t) = time_bytes t

-- A step: its tag, and its parts.
unfoldable mutual
  pub bytes_inferring : Infer → ℕ
  bytes_inferring (local q i) = 2
  bytes_inferring (certificate q i) = 2
  bytes_inferring (first q M) = 1 + bytes_inferring M
  bytes_inferring (second q M) = 1 + bytes_inferring M
  bytes_inferring (apply q M1 M2 t1 t2) = 1 + bytes_inferring M1 + bytes_checking M2 + time_bytes t1 + time_bytes t2
  bytes_inferring (instance q t M) = 1 + term_bytes t + bytes_inferring M

  pub bytes_checking : Check → ℕ
  bytes_checking (pair q M1 M2) = 1 + bytes_checking M1 + bytes_checking M2
  bytes_checking (trivial q) = 1
  bytes_checking (at_in q M) = 1 + bytes_checking M
  bytes_checking (at_out q M1 M2) = 1 + bytes_inferring M1 + bytes_checking M2
  bytes_checking (says_in q M) = 1 + bytes_checking M
  bytes_checking (says_out q M1 M2) = 1 + bytes_inferring M1 + bytes_checking M2
  bytes_checking (state q) = 1
  bytes_checking (compare q) = 1
  bytes_checking (or_left q M) = 1 + bytes_checking M
  bytes_checking (or_right q M) = 1 + bytes_checking M
  bytes_checking (or_out q M1 M2 M3) = 1 + bytes_inferring M1 + bytes_checking M2 + bytes_checking M3
  bytes_checking (falsity_out q M) = 1 + bytes_inferring M
  bytes_checking (inferred M) = bytes_inferring M

-- The offset of a checking step's tag.
unfoldable pub place : Check → ℕ
place (pair q M1 M2) = q
place (trivial q) = q
place (at_in q M) = q
place (at_out q M1 M2) = q
place (says_in q M) = q
place (says_out q M1 M2) = q
place (state q) = q
place (compare q) = q
place (or_left q M) = q
place (or_right q M) = q
place (or_out q M1 M2 M3) = q
place (falsity_out q M) = q
place (inferred M) = offset M

-- The place after it.
abbrev pub past : Check → ℕ
past N = place N + bytes_checking N

-- ── The table ──

-- Where the table has what is said of a place.
abbrev pub slot : ℕ → ℕ
slot at = at / 3

-- How many numbers it has: one for every three bytes of the longest proof.
abbrev pub most_ends : ℕ
most_ends = 1365

module _ (ends : List ℕ) where
  -- The table has where a second part ends.
  abbrev pub EndTold : Check → Type 0
  EndTold N = get_or ends (slot (place N)) 0 ≡ past N

  -- It has so for each 26 of a proof.
  unfoldable mutual
    pub Told : Infer → Type 0
    Told (local q i) = Unit {0}
    Told (certificate q i) = Unit {0}
    Told (first q M) = Told M
    Told (second q M) = Told M
    Told (apply q M1 M2 t1 t2) = Told M1 × ToldChecking M2 × EndTold M2
    Told (instance q t M) = Told M

    pub ToldChecking : Check → Type 0
    ToldChecking (pair q M1 M2) = ToldChecking M1 × ToldChecking M2
    ToldChecking (trivial q) = Unit {0}
    ToldChecking (at_in q M) = ToldChecking M
    ToldChecking (at_out q M1 M2) = Told M1 × ToldChecking M2
    ToldChecking (says_in q M) = ToldChecking M
    ToldChecking (says_out q M1 M2) = Told M1 × ToldChecking M2
    ToldChecking (state q) = Unit {0}
    ToldChecking (compare q) = Unit {0}
    ToldChecking (or_left q M) = ToldChecking M
    ToldChecking (or_right q M) = ToldChecking M
    ToldChecking (or_out q M1 M2 M3) = Told M1 × ToldChecking M2 × ToldChecking M3
    ToldChecking (falsity_out q M) = Told M
    ToldChecking (inferred M) = Told M

-- ── As a contract has it ──

-- The bytes are a proof over so many certificates.
abbrev pub IsProof : Lent → ℕ → Type 0
IsProof proof certificates = (N : Check) × (proof_in certificates proof.entry.now ≡ Some N)

-- Where the bytes are a proof, and the table is long enough, it has at the exit where each second part ends.
abbrev pub EndsTold : Lent → ℕ → LentToWrite → Type 0
EndsTold proof certificates ends =
    (N : Check) → most_ends ≤ length ends.entry.now → proof_in certificates proof.entry.now ≡ Some N → ToldChecking ends.exit.now N
