-- The facts passed are listed.
use Rattle.std.proofs.Common.{arith, ◌≡◌, min, sym, ap, ap₂, ◌∙◌, ◌++◌, [], ◌∷◌, length}
use Rattle.procap.specs.Procaps.{most_facts}
use Rattle.ledger.specs.Numbers.{facts_listed}
use Rattle.ledger.proofs.ListNumbers.{listed_counted, one_listed_more}
use Rattle.ledger.proofs.facts.FactList.of_numbers.Goals as goal

pub loop-index-init : goal.loop-index-init
unfolding facts_listed
loop-index-init c = c.none-list.ensures

pub put-requires : goal.put-requires
put-requires c = omega (arith, ap length c.loop-index.invariant, listed_counted c.args.facts.now c.loop-index.index)

pub loop-index-preserved : goal.loop-index-preserved
loop-index-preserved c =
    c.put.ensures
    ∙ ap₂ (λ fs f. fs ++ (f ∷ [])) c.loop-index.invariant c.fact_in.ensures
    ∙ sym (one_listed_more c.args.facts.now c.loop-index.index)

pub returns : goal.returns
returns c =
    let all : c.loop-index.index ≡ min most_facts c.args.count = omega arith in
    c.loop-index.invariant ∙ ap (facts_listed c.args.facts.now) all
