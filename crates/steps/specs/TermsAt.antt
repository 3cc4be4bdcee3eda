-- What the code hands back for a term and for a time of a proof, from what is read at a place.
use Rattle.std.specs.Prelude.{ℕ, None, Option, Some}
use Rattle.procap.specs.declared.fact.Term.{Term}
use Rattle.procap.specs.declared.fact.Term.TheVariants.{Name, When}
use Rattle.procap.specs.declared.time.Time.{Time}
use Rattle.procap.specs.declared.time.Time.TheVariants.{Ctime}
use Rattle.steps.specs.declared.TermAt.{TermAt}
use Rattle.steps.specs.declared.TimeAt.{TimeAt}

-- The term that is read and the place after it; where none is, name 0 and the same place.
unfoldable pub term_given : Option (Term × ℕ) → ℕ → TermAt
term_given None at = record { term = Name 0; next = at }
term_given (Some r) at = record { term = r.0; next = r.1 }

-- The time that a term is; a name is none, and gives ctime.
unfoldable pub time_or_ctime : Term → Time
time_or_ctime (Name n) = Ctime
time_or_ctime (When t) = t

-- The time that is read and the place after what is read; ctime where a name is read, or nothing.
abbrev pub time_given : Option (Term × ℕ) → ℕ → TimeAt
time_given o at = let given = term_given o at in record { time = time_or_ctime given.term; next = given.next }
