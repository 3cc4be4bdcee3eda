-- The terms and the parts of a fact in a state: a term by its tag, and the predicate, the count and the terms that make the fact.
use Prim.Native.Nat.{ℕ, ◌+◌, ◌≤◌, ◌<◌}
use mathlib.Core.Bool.{true, false}
use mathlib.Core.Path.{◌≡◌, refl}
use mathlib.Core.List.{List}
use Rattle.std.specs.Prelude.{None, Option, Some, Result, ok_or}
use Rattle.std.specs.Result.{result_ok}
use borrow.Author.Tests.{le-leb, lt-leb}
use lib.ListN.{length, get_or}
use Rattle.procap.specs.Facts.{most_terms}
use Rattle.procap.specs.Bytes.{then, present, ensure, many, number, byte, term_tag, term_by, predicate_and}
use Rattle.procap.specs.Reading.{with_predicate}
use Rattle.procap.specs.States.{settled, settled_term, fact}
use Rattle.procap.specs.declared.tag.NoTag.{NoTag}
use Rattle.procap.specs.declared.tag.TermTag.{TermTag}
use Rattle.procap.proofs.Numbers.{byte_read, byte_none}
use Rattle.procap.proofs.WithPredicate.{predicate_given}

-- ── A term by its tag ──

-- The tag that is left of a byte's, where an error stands for none.
pub tag_left : (o : Option TermTag) {e : NoTag} {r : Result TermTag NoTag} {tag : TermTag} → r ≡ ok_or o e → Some tag ≡ result_ok r → o ≡ Some tag
tag_left None h k = cc
tag_left (Some t) h k = cc

module _ (bytes : List ℕ) (at : ℕ) where
  -- No byte is no term.
  pub no_byte : length bytes ≤ at → settled_term bytes at ≡ None
  unfolding settled_term then
  no_byte l = rw (byte_none bytes at l) refl

  module _ (b : ℕ) (l : at < length bytes) (same : get_or bytes at 0 ≡ b) where
    -- A byte that is no tag, or the tag of no settled term, is no term; after another tag stands the term.
    pub no_term : term_tag b ≡ None → settled_term bytes at ≡ None
    unfolding settled_term then present
    no_term e = rw (byte_read bytes at l, same, e) refl

    module _ (tag : TermTag) (e : term_tag b ≡ Some tag) where
      pub unsettled : settled tag ≡ false → settled_term bytes at ≡ None
      unfolding settled_term present ensure then
      unsettled s = rw (byte_read bytes at l, same, e, s) refl

      pub by_tag : settled tag ≡ true → settled_term bytes at ≡ term_by bytes tag (at + 1)
      unfolding settled_term present ensure then
      by_tag s = rw (byte_read bytes at l, same, e, s) refl

-- ── The parts of a fact ──

-- Without a predicate, or without a count of at most four, there is no fact; else its terms follow.
module _ (bytes : List ℕ) (at : ℕ) where
  pub no_predicate : number bytes 2 at ≡ None → fact bytes at ≡ None
  unfolding fact predicate_and then
  no_predicate e = rw e refl

  module _ (p place : ℕ) (e : number bytes 2 at ≡ Some (p, place)) where
    pub no_count : byte bytes place ≡ None → fact bytes at ≡ None
    unfolding fact predicate_and then
    no_count f = rw (e, f) refl

    module _ (n from : ℕ) (f : byte bytes place ≡ Some (n, from)) where
      pub too_many : most_terms < n → fact bytes at ≡ None
      unfolding fact predicate_and ensure then
      too_many l = rw (e, f, lt-leb n most_terms l) refl

      pub with_terms : n ≤ most_terms → fact bytes at ≡ with_predicate p (many (settled_term bytes) n from)
      unfolding fact predicate_and ensure then
      with_terms l = rw (e, f, le-leb n most_terms l) (predicate_given p (many (settled_term bytes) n from))
