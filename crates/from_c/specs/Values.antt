-- Procap values in bytes, as a caller in C hands them over: any value, also one that cannot be written.
use Rattle.std.specs.Prelude.{ℕ, ◌+◌, List, length, eqb, Err, Ok}
use Rattle.procap.specs.Tells.{pick}
use Rattle.procap.specs.Facts.{most_terms, argument_of}
use Rattle.procap.specs.Procaps.{most_facts}
use Rattle.procap.specs.Outcome.{Outcome}
use Rattle.procap.specs.declared.answer.Answer.TheVariants.{ProcapMalformed}
use Rattle.procap.specs.declared.fact.Argument.{Argument}
use Rattle.procap.specs.declared.fact.Fact.{Fact}
use Rattle.procap.specs.declared.procap.Procap.{Procap}
use Rattle.from_c.specs.Numbers.{one, two, eight, wide_term}
use Rattle.from_c.specs.InARow.{in_a_row}

-- How many bytes a value takes: version (1), request (2 each), from, to (8 each), count (1), facts.
abbrev pub value_bytes : ℕ
value_bytes = 648

-- How many bytes a term takes.
abbrev pub term_bytes : ℕ
term_bytes = 9

-- How many bytes a fact takes: predicate (2), count (1), four terms (9 each).
abbrev pub fact_bytes : ℕ
fact_bytes = 39

-- The argument at a place.
abbrev pub argument_at : List ℕ → ℕ → Argument
argument_at bytes at = argument_of (wide_term bytes at)

-- The fact at a place.
abbrev pub fact_at : List ℕ → ℕ → Fact
fact_at bytes at = record { predicate = two bytes at; count = one bytes (at + 2); arguments = in_a_row (argument_at bytes) term_bytes most_terms (at + 3) }

-- The value that so many bytes are.
abbrev pub value_of : List ℕ → Procap
value_of bytes =
    record {
      version = one bytes 0;
      request = record { who = two bytes 1; what = two bytes 3; right = two bytes 5 };
      from = eight bytes 7;
      to = eight bytes 15;
      count = one bytes 23;
      facts = in_a_row (fact_at bytes) fact_bytes most_facts 24;
    }

-- The value that the bytes are: 12 for bytes of any other length.
unfoldable pub value_in : List ℕ → Outcome Procap
value_in bytes = pick (eqb (length bytes) value_bytes) (Ok (value_of bytes)) (Err ProcapMalformed)
