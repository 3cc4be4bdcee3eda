-- What is handed over of an outcome, none of whose refusals is a grant, is the outcome: with a grant its procap, and else its refusal.
use mathlib.Core.Path.{◌≡◌, sym, ap, ◌∙◌}
use Rattle.std.specs.Prelude.{Err, Ok}
use native.Mathlib.Omega.{arith}
use Rattle.procap.specs.Answers.{number_of}
use Rattle.procap.specs.Outcome.{Outcome, answer_of, procap_handed}
use Rattle.procap.specs.declared.answer.Answer.{Answer}
use Rattle.procap.specs.declared.answer.Answer.TheVariants.{Granted}
use Rattle.procap.specs.declared.procap.Procap.{Procap}
use Rattle.procap.proofs.Refused.{IfRefused}
use Rattle.cases.proofs.Refusals.{Refuses}

pub procap_is_granted : (o : Outcome Procap) (answer : Answer) (procap : Procap) → IfRefused Refuses o → answer ≡ answer_of o
    → procap ≡ procap_handed o → answer ≡ Granted → ◌≡◌ {A = Outcome Procap} (Ok procap) o
unfolding answer_of procap_handed
procap_is_granted (Ok p) answer procap refuses a handed granted = ap (λ q. Ok q) handed
procap_is_granted (Err e) answer procap refuses a handed granted = absurd (omega (arith, refuses, ap number_of (sym a ∙ granted)))

pub answer_refuses : (o : Outcome Procap) (answer : Answer) → answer ≡ answer_of o → (answer ≡ Granted → ⊥)
    → ◌≡◌ {A = Outcome Procap} (Err answer) o
unfolding answer_of
answer_refuses (Ok p) answer a refused = absurd (refused a)
answer_refuses (Err e) answer a refused = ap (λ x. Err x) a
