-- Laws of reading the line of a fact.
use Prim.Native.Nat.{ℕ}
use mathlib.Core.Path.{◌≡◌}
use mathlib.Core.List.{List}
use Rattle.std.specs.Prelude.{None, Some}
use Rattle.procap.specs.Facts.{most_terms}
use Rattle.procap.specs.Writable.{largest_name}
use Rattle.procap.specs.Bytes.{then}
use Rattle.procap.specs.Reading.{with_predicate}
use Rattle.procap.proofs.WithPredicate.{predicate_given}
use Rattle.text.specs.Words.{bytes_of}
use Rattle.text.specs.Line.{literal, number_to}
use Rattle.text.specs.Reader.{terms, fact_line}

-- A fact's line: its word, its predicate and its terms.
module _ (text : List ℕ) (at : ℕ) where
  pub no_fact_word : literal text (bytes_of "fact=") at ≡ None → fact_line text at ≡ None
  unfolding fact_line then
  no_fact_word e = rw e

  module _ (start : ℕ) (e : literal text (bytes_of "fact=") at ≡ Some (tt, start)) where
    pub no_predicate : number_to text largest_name start ≡ None → fact_line text at ≡ None
    unfolding fact_line then
    no_predicate f = rw (e, f)

    pub fact_line_with : (p next : ℕ) → number_to text largest_name start ≡ Some (p, next)
        → fact_line text at ≡ with_predicate p (terms text most_terms next)
    unfolding fact_line then
    fact_line_with p next f = rw (e, f) (predicate_given p (terms text most_terms next))
