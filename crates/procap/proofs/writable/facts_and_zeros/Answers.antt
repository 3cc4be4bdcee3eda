-- Each call of the first closure tells of its fact whether it is in form, and each of the second whether it is all zeros.
use Rattle.std.proofs.Common.{rules}
use mathlib.Core.Path.{◌≡◌, ◌∙◌}
use lib.ListN.{take}
use Rattle.procap.proofs.Indices.{mapped, tells_zeros}
use Rattle.procap.proofs.Slices.{all_told}
use Rattle.procap.proofs.Spelling.{beyond}
use Rattle.procap.proofs.Telling.{holds, tells_both, tells_first}
use Rattle.procap.specs.Tells.{Tells}
use Rattle.procap.specs.Lists.{All}
use Rattle.procap.specs.Facts.{no_fact}
use Rattle.procap.specs.Procaps.{most_facts}
use Rattle.procap.specs.Writable.{FactInForm}
use Rattle.procap.proofs.writable.facts_and_zeros.Goals.{After-all}
use Rattle.procap.proofs.writable.facts_and_zeros.Goals as goal

in_form : (c : After-all) → Tells c.all.result (All FactInForm (take c.args.procap.now.count c.args.procap.now.facts))
in_form c = all_told _ FactInForm (c.iter.ensures.rest ∙ c.split_at.ensures.front) (λ x b q k. search rules) c.all.ensures.ran

pub returns-then-all : goal.returns-then-all
returns-then-all c =
    tells_both _ _ _
    (holds _ c.if-all.true (in_form (goal.at.returns-then-all c).After-all))
    (tells_zeros most_facts no_fact beyond _ _ (search mapped) c.requires _
    (all_told _ (λ f. f ≡ no_fact) (c.iter-then-all.ensures.rest ∙ c.split_at.ensures.back) (λ x b q k. search rules) c.all-then-all.ensures.ran))

pub returns-else-all : goal.returns-else-all
returns-else-all c = tells_first _ _ _ c.if-all.false (in_form (goal.at.returns-else-all c).After-all)
