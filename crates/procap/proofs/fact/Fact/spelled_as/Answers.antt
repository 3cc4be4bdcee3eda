-- Two facts are spelled the same when their predicates are the same and the arguments that count.
use mathlib.Core.Path.{◌≡◌}
use Rattle.std.specs.Bool.{Decides}
use Rattle.std.proofs.lemmas.Slice.Eq.{slice_eq-Decides}
use Rattle.procap.proofs.Telling.{tells_other}
use Rattle.procap.proofs.Compared.{arguments_compared}
use Rattle.procap.proofs.Spelling.{spelled_by, same_predicate}
use Rattle.procap.proofs.fact.Fact.spelled_as.Goals as goal

pub returns-then-self-other : goal.returns-then-self-other
returns-then-self-other c =
    let same : Decides c.eq.result (c.terms.result.now ≡ c.terms-then-self-other.result.now) = slice_eq-Decides arguments_compared _ _ _ c.eq.ensures in
    spelled_by c.args.self.now c.args.other.now _ c.if-self-other.true (rw (c.terms.ensures, c.terms-then-self-other.ensures) at same)

pub returns-else-self-other : goal.returns-else-self-other
returns-else-self-other c = tells_other _ _ c.if-self-other.false (λ s. c.if-self-other.false (same_predicate c.args.self.now c.args.other.now s))
