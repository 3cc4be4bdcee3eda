-- Each call of the first closure tells of its term whether it is in form, and each of the second whether it is a zero.
use Rattle.std.proofs.Common.{rules}
use mathlib.Core.Path.{◌≡◌, ◌∙◌}
use lib.ListN.{take}
use Rattle.procap.proofs.Indices.{mapped, tells_zeros}
use Rattle.procap.proofs.Slices.{all_told}
use Rattle.procap.proofs.Telling.{holds, tells_both, tells_first}
use Rattle.procap.specs.Tells.{Tells}
use Rattle.procap.specs.Lists.{All}
use Rattle.procap.specs.Facts.{most_terms, no_argument}
use Rattle.procap.specs.Writable.{ArgumentInForm}
use Rattle.procap.proofs.writable.terms_and_zeros.Goals.{After-all}
use Rattle.procap.proofs.writable.terms_and_zeros.Goals as goal

in_form : (c : After-all) → Tells c.all.result (All ArgumentInForm (take c.args.fact.now.count c.args.fact.now.arguments))
in_form c = all_told _ ArgumentInForm (c.iter.ensures.rest ∙ c.split_at.ensures.front) (λ x b q k. search rules) c.all.ensures.ran

pub returns-then-all : goal.returns-then-all
returns-then-all c =
    tells_both _ _ _
    (holds _ c.if-all.true (in_form (goal.at.returns-then-all c).After-all))
    (tells_zeros most_terms no_argument no_argument _ _ (search mapped) c.requires _
    (all_told _ (λ a. a ≡ no_argument) (c.iter-then-all.ensures.rest ∙ c.split_at.ensures.back) (λ x b q k. search rules) c.all-then-all.ensures.ran))

pub returns-else-all : goal.returns-else-all
returns-else-all c = tells_first _ _ _ c.if-all.false (in_form (goal.at.returns-else-all c).After-all)
