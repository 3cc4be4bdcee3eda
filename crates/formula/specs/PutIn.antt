-- The terms put in for the binders passed, and a formula with them put in.
use Rattle.std.specs.Prelude.{ℕ, zero, suc, ◌+◌, ◌-◌, ◌≤◌, ◌≡◌, List, [], ◌∷◌, map, length, get_or, set, replicate, ltb, None, Option, Some}
use Rattle.std.proofs.Math.Logic.{ite}
use Rattle.std.proofs.Math.Decide.{dec_lt}
use Rattle.procap.specs.Tells.{pick}
use Rattle.procap.specs.Lists.{nth}
use Rattle.procap.specs.Numbered.{of_number, number_of_term}
use Rattle.procap.specs.declared.fact.Term.{Term}
use Rattle.bl.specs.Trees as tree
use Rattle.bl.specs.Trees.{Formula, top, and, implies, all, says, at, atom, fact, order, or, falsity, fixed, bound}
use Rattle.bl.specs.Formulas.{most_binders}
use Rattle.formula.specs.declared.terms.Terms.{Terms}
use Rattle.formula.specs.declared.terms.Place.{Place}
use Rattle.formula.specs.declared.terms.Place.TheVariants.{Fixed, Bound}

-- How many numbers the terms of all binders take: one each.
abbrev pub terms_numbers : ℕ
terms_numbers = most_binders

-- The first n of a row, the last of them first.
unfoldable pub stack : {A : Type 0} → (ℕ → A) → ℕ → List A
stack f zero = []
stack f (suc n) = f n ∷ stack f n

-- The term that the number of an index stands for.
unfoldable pub slot : List ℕ → ℕ → Term
slot numbers i = of_number (get_or numbers i 0)

-- The terms put in, the latest first.
unfoldable pub terms_of : Terms → List Term
terms_of t = stack (slot t.numbers) t.count

-- No terms.
abbrev pub no_terms : Terms
no_terms = record { count = 0; numbers = replicate terms_numbers 0 }

-- The terms with one more put in; where there is no room, as they are.
unfoldable pub terms_with : Terms → Term → Terms
terms_with t u =
    pick (ltb t.count most_binders) (record { count = t.count + 1; numbers = set t.numbers t.count (number_of_term u) }) t

-- There are no more of them than binders may be passed.
pub record FewTerms (t : Terms) : Type 0 where
  pub few : t.count ≤ most_binders
  pub room : length t.numbers ≡ terms_numbers

-- What stands in the code where a term may, as in a tree.
unfoldable pub place_of : Place → tree.Place
place_of (Fixed t) = fixed t
place_of (Bound i) = bound i

-- The term put in for a variable, if there is one.
unfoldable pub put_for : ℕ → Option Term → tree.Place
put_for j None = bound j
put_for j (Some t) = fixed t

-- The terms ρ put in for the variables of a place, under d binders of its own.
unfoldable pub fill_place : ℕ → List Term → tree.Place → tree.Place
fill_place d ρ (fixed t) = fixed t
fill_place d ρ (bound j) = ite (dec_lt j d) (bound j) (put_for j (nth ρ (j - d)))

-- The same in a formula.
unfoldable pub fill : ℕ → List Term → Formula → Formula
fill d ρ top = top
fill d ρ (and A B) = and (fill d ρ A) (fill d ρ B)
fill d ρ (implies A B) = implies (fill d ρ A) (fill d ρ B)
fill d ρ (all s A) = all s (fill (suc d) ρ A)
fill d ρ (says k A) = says (fill_place d ρ k) (fill d ρ A)
fill d ρ (at t u A) = at (fill_place d ρ t) (fill_place d ρ u) (fill d ρ A)
fill d ρ (atom p ts) = atom p (map (fill_place d ρ) ts)
fill d ρ (fact p ts) = fact p (map (fill_place d ρ) ts)
fill d ρ (order t u) = order (fill_place d ρ t) (fill_place d ρ u)
fill d ρ (or A B) = or (fill d ρ A) (fill d ρ B)
fill d ρ falsity = falsity
