-- The loop has put the moment into the arguments passed, and left the others.
use Prim.Native.Nat.{ℕ, ◌<◌, ◌+◌}
use mathlib.Core.Path.{◌≡◌, refl, ap, ap₂, ◌∙◌}
use mathlib.Core.List.{List}
use native.Mathlib.Numerals.{add-one}
use lib.ListN.{length, get_or, set}
use Rattle.procap.proofs.Indices.{mapped, partly, partly_at, partly_more, partly_all}
use Rattle.procap.specs.Facts.{most_terms, no_argument, argument_of, term_at_moment, fact_at_moment}
use Rattle.procap.specs.declared.fact.Term.{Term}
use Rattle.procap.specs.declared.fact.Argument.{Argument}
use native.Mathlib.Omega.{arith}
use Rattle.procap.proofs.fact.Fact.at_moment.Goals as goal

-- The argument with the moment put for ctime.
abbrev put : ℕ → Argument → Argument
put m a = argument_of (term_at_moment m a.term)

one_more : (m i : ℕ) (xs ys : List Argument) (t : Term) → i < length xs → ys ≡ partly (put m) i xs
    → t ≡ term_at_moment m (get_or ys i no_argument).term → set ys i (argument_of t) ≡ partly (put m) (i + 1) xs
one_more m i xs ys t l e r =
    let a : get_or ys i no_argument ≡ get_or xs i no_argument = ap (λ zs. get_or zs i no_argument) e ∙ partly_at (put m) no_argument i xs in
    rw add-one (ap₂ (λ zs b. set zs i b) e (ap argument_of r ∙ ap (put m) a) ∙ partly_more (put m) no_argument i xs l)

pub loop-argument-init : goal.loop-argument-init
unfolding partly
loop-argument-init c = refl

pub loop-argument-preserved : goal.loop-argument-preserved
loop-argument-preserved c =
    let e : length c.args.self.arguments ≡ most_terms = search mapped in
    one_more _ _ _ _ _
    (omega (arith, c.loop-argument-test.true))
    c.loop-argument.invariant
    c.at_moment-argument.ensures

pub returns : goal.returns
unfolding fact_at_moment
returns c =
    let fact = c.args.self in
    let e : length fact.arguments ≡ most_terms = search mapped in
    ap
    (λ xs. record { predicate = fact.predicate; count = fact.count; arguments = xs })
    (c.loop-argument.invariant ∙ partly_all (put _) _ _ (omega (arith, c.loop-argument-test.false)))
