-- Certificate records in bytes, as a caller in C hands them over: principal (2 bytes), from, to (9 each), start, length (8 each).
use Rattle.std.specs.Prelude.{ℕ, ◌+◌, List, length, leb}
use Rattle.procap.specs.Tells.{pick}
use Rattle.procap.specs.declared.time.Time.{Time}
use Rattle.procap.specs.declared.time.Time.TheVariants.{Ctime}
use Rattle.procap.specs.declared.fact.Term.{Term}
use Rattle.procap.specs.declared.fact.Term.TheVariants.{Name, When}
use Rattle.bl.specs.declared.Certificate.{Certificate}
use Rattle.from_c.specs.Numbers.{two, eight, wide_term}
use Rattle.from_c.specs.InARow.{in_a_row, how_many}

-- How many bytes a record takes.
abbrev pub record_bytes : ℕ
record_bytes = 36

-- How many records are lent on at the most: one more than are taken, so that too many stay too many.
abbrev pub lent_at_most : ℕ
lent_at_most = 33

-- The time that a term is; a name is none, and counts as ctime, which no record may have.
unfoldable pub time_of : Term → Time
time_of (When t) = t
time_of (Name n) = Ctime

-- The record at a place where all its bytes are there.
abbrev pub whole_record : List ℕ → ℕ → Certificate
whole_record bytes at =
    record { principal = two bytes at; from = time_of (wide_term bytes (at + 2)); to = time_of (wide_term bytes (at + 11)); start = eight bytes (at + 20); length = eight bytes (at + 28) }

-- What stands for a record that is not all there: a malformed one.
abbrev pub no_record : Certificate
no_record = record { principal = 0; from = Ctime; to = Ctime; start = 0; length = 0 }

-- The record at a place.
unfoldable pub record_at : List ℕ → ℕ → Certificate
record_at bytes at = pick (leb (at + record_bytes) (length bytes)) (whole_record bytes at) no_record

-- The records that the bytes say.
unfoldable pub records_in : List ℕ → List Certificate
records_in bytes = in_a_row (record_at bytes) record_bytes (how_many record_bytes (length bytes)) 0
