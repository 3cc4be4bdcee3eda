-- The derived `==` of terms, of arguments and of facts decides whether they are the same.
use Rattle.std.proofs.Common.{rules}
use mathlib.Core.Bool.{Bool, false≢true}
use mathlib.Core.Path.{◌≡◌, sym, ap, ◌∙◌}
use Rattle.std.specs.Bool.{Decides}
use Rattle.std.specs.Cmp.Lexicographic.{pointwise_decides}
use Rattle.std.proofs.lemmas.Bool.Decides.{Decides-and, Decides-eqb}
use Rattle.procap.specs.Tells.{Tells}
use Rattle.procap.proofs.Telling.{tells_if}
use Rattle.procap.specs.declared.fact.Term.{Term}
use Rattle.procap.specs.declared.fact.Argument.{Argument}
use Rattle.procap.specs.declared.fact.Fact.{Fact}
use Rattle.procap.specs.contracts.fact.TermPartialEq.TheImpl.{eq-value as term-eq}
use Rattle.procap.specs.contracts.fact.ArgumentPartialEq.TheImpl.{eq-value as argument-eq}
use Rattle.procap.specs.contracts.fact.FactPartialEq.TheImpl.{eq-value as fact-eq}

pub terms_compared : (t u : Term) → Decides (term-eq.it t u) (t ≡ u)
terms_compared t u = search rules

pub arguments_compared : (a b : Argument) → Decides (argument-eq.it a b) (a ≡ b)
arguments_compared a b = search rules

facts_compared : (f g : Fact) → Decides (fact-eq.it f g) (f ≡ g)
facts_compared f g =
    let d =
    Decides-and _ _ (Decides-eqb f.predicate g.predicate)
    (Decides-and _ _ (Decides-eqb f.count g.count) (pointwise_decides arguments_compared f.arguments g.arguments)) in (
      λ e i. let h = d.0 e in record { predicate = h.0 i; count = h.1.0 i; arguments = h.1.1 i },
      λ e. d.1 (ap (λ x. x.predicate) e, (ap (λ x. x.count) e, ap (λ x. x.arguments) e)),
    )

-- A flag that is what such a comparison answers tells whether they are the same.
module _ (b d : Bool) {P : Type 0} (h : Decides d P) (e : b ≡ d) where
  decided_told : Tells b P
  decided_told = tells_if b (λ t. h.0 (sym e ∙ t)) (λ t s. false≢true (sym t ∙ e ∙ h.1 s))

pub terms_told : (b : Bool) (t u : Term) → b ≡ term-eq.it t u → Tells b (t ≡ u)
terms_told b t u e = decided_told b _ (terms_compared t u) e

pub facts_told : (b : Bool) (f g : Fact) → b ≡ fact-eq.it f g → Tells b (f ≡ g)
facts_told b f g e = decided_told b _ (facts_compared f g) e
