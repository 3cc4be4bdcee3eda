-- The terms read so far are kept in the array, and the rest is still to be read. Where no space follows, or after four terms, only the
-- line's end may stand.
use Rattle.std.proofs.Common.{◌≡◌, ◌-◌}
use Rattle.procap.specs.Facts.{most_terms, no_argument, argument_of}
use Rattle.procap.proofs.ReadSoFar.{ReadSoFar}
use Rattle.text.specs.Reader.{terms}
use Rattle.text.proofs.facts.fact_with.Given as goal

abbrev pub invariant-loop-argument : goal.invariant-loop-argument
invariant-loop-argument l =
    (l.count ≡ l.argument-index)
    × ReadSoFar most_terms no_argument argument_of (terms l.text most_terms l.at) (terms l.text (most_terms - l.count) l.next) l.argument-items l.count
