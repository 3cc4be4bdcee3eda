-- None of the facts passed stands once more further on, so none stands twice in the list when none does in the rest, and only then.
use mathlib.Core.List.{map}
use lib.ListN.{length}
use Rattle.procap.specs.Lists.{Distinct}
use Rattle.procap.specs.Facts.{spelled}
use Rattle.procap.proofs.writable.none_twice.Given as goal

abbrev pub invariant-loop-fact : goal.invariant-loop-fact
invariant-loop-fact l = record {
  whole : Distinct (map spelled l.rest) → Distinct (map spelled l.fn.facts);
  part : Distinct (map spelled l.fn.facts) → Distinct (map spelled l.rest);
}

abbrev pub decreases-loop-fact : goal.decreases-loop-fact
decreases-loop-fact l = length l.rest
