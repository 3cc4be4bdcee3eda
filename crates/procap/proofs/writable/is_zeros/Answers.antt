-- Each call of the closure tells of its argument whether it is a zero; a fact of no predicate and no terms is all zeros when each argument is one.
use Rattle.std.proofs.Common.{rules}
use mathlib.Core.Path.{◌≡◌, ap}
use native.Mathlib.Omega.{arith}
use lib.ListN.{replicate}
use Rattle.procap.proofs.Indices.{mapped, tells_zeros}
use Rattle.procap.proofs.Slices.{all_told}
use Rattle.procap.proofs.Telling.{tells_by}
use Rattle.procap.specs.Lists.{pad}
use Rattle.procap.specs.Facts.{most_terms, no_argument, no_fact}
use Rattle.procap.specs.declared.fact.Fact.{Fact}
use Rattle.procap.proofs.writable.is_zeros.Goals as goal

all_zeros : (f : Fact) → f.predicate ≡ 0 → f.count ≡ 0 → f.arguments ≡ replicate most_terms no_argument → f ≡ no_fact
all_zeros f p k a = λ i. record { predicate = p i; count = k i; arguments = a i }

pub returns-then-fact-eq0 : goal.returns-then-fact-eq0
unfolding pad
returns-then-fact-eq0 c =
    let fact = c.args.fact.now in
    let same : fact ≡ no_fact → fact.arguments ≡ replicate most_terms no_argument = λ e. ap (λ f. f.arguments) e in
    tells_by c.all.result (all_zeros fact c.if-fact-ne0.false c.if-fact-eq0.true) same
    (tells_zeros most_terms no_argument no_argument fact.arguments 0 (search mapped) (omega arith) _
    (all_told _ (λ a. a ≡ no_argument) c.iter.ensures.rest (λ x b q k. search rules) c.all.ensures.ran))
