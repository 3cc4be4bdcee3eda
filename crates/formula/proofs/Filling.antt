-- To put a term in for the innermost variable that is left is to put it on the list of the terms filled in; and with no terms on the list a
-- formula stays as it is.
use Prim.Native.Nat.{ℕ, suc, ◌-◌, ◌<◌}
use mathlib.Core.Path.{◌≡◌, refl, sym, ap, ap₂, ◌∙◌}
use mathlib.Core.List.{List, [], ◌∷◌, map}
use Rattle.std.specs.Prelude.{None, Option, Some}
use mathlib.Core.Logic.{ite, if_pos, if_neg, ◌≢◌}
use native.Mathlib.Decide.{ℕ_discrete, dec_lt}
use native.Mathlib.Omega.{arith}
use Rattle.procap.specs.Lists.{nth}
use Rattle.procap.specs.declared.fact.Term.{Term}
use Rattle.bl.specs.Trees.{Place, fixed, bound, Formula, top, and, implies, all, says, at, atom, fact, order, or, falsity, put_place, put}
use Rattle.formula.specs.PutIn.{put_for, fill_place, fill}

-- ── One term more ──

module _ (t : Term) where
  -- The variable itself becomes the term, and any other place stays as it is.
  put_here : (d j : ℕ) → j ≡ d → put_place d t (bound j) ≡ fixed t
  unfolding put_place
  put_here d j e = if_pos (ℕ_discrete j d) e (fixed t) (bound j)

  put_elsewhere : (d j : ℕ) → j ≢ d → (o : Option Term) → put_place d t (put_for j o) ≡ put_for j o
  unfolding put_place put_for
  put_elsewhere d j n None = if_neg (ℕ_discrete j d) n (fixed t) (bound j)
  put_elsewhere d j n (Some u) = refl

  module _ (ρ : List Term) (d j : ℕ) where
    -- A variable of a binder inside is left, and one of a binder outside is looked up.
    left_bound : j < d → fill_place d ρ (bound j) ≡ bound j
    unfolding fill_place
    left_bound l = if_pos (dec_lt j d) l (bound j) (put_for j (nth ρ (j - d)))

    looked_up : (i : ℕ) → (j < d → ⊥) → j - d ≡ i → fill_place d ρ (bound j) ≡ put_for j (nth ρ i)
    unfolding fill_place
    looked_up i n e = if_neg (dec_lt j d) n (bound j) (put_for j (nth ρ (j - d))) ∙ ap (λ k. put_for j (nth ρ k)) e

  module _ (ρ : List Term) where
    -- A variable is of a binder inside, the one that the term is put in for, or of a binder outside.
    put_fill_variable : (d j : ℕ) → put_place d t (fill_place (suc d) ρ (bound j)) ≡ fill_place d (t ∷ ρ) (bound j)
    unfolding nth put_for
    put_fill_variable d j = by (dec_lt j d) (ℕ_discrete j d)
      where
        by : Dec (j < d) → Dec (j ≡ d) → put_place d t (fill_place (suc d) ρ (bound j)) ≡ fill_place d (t ∷ ρ) (bound j)
        by (yes l) e =
            ap (put_place d t) (left_bound ρ (suc d) j (omega arith))
            ∙ put_elsewhere d j (omega arith) None
            ∙ sym (left_bound (t ∷ ρ) d j l)
        by (no n) (yes e) =
            ap (put_place d t) (left_bound ρ (suc d) j (omega arith))
            ∙ put_here d j e
            ∙ sym (looked_up (t ∷ ρ) d j 0 n (omega arith))
        by (no n) (no m) =
            ap (put_place d t) (looked_up ρ (suc d) j (j - suc d) (omega arith) refl)
            ∙ put_elsewhere d j m (nth ρ (j - suc d))
            ∙ sym (looked_up (t ∷ ρ) d j (suc (j - suc d)) n (omega arith))

    put_fill_place : (d : ℕ) (x : Place) → put_place d t (fill_place (suc d) ρ x) ≡ fill_place d (t ∷ ρ) x
    unfolding put_place fill_place
    put_fill_place d (fixed u) = refl
    put_fill_place d (bound j) = put_fill_variable d j

    put_fill_places : (d : ℕ) (xs : List Place) → map (put_place d t) (map (fill_place (suc d) ρ) xs) ≡ map (fill_place d (t ∷ ρ)) xs
    put_fill_places d [] = refl
    put_fill_places d (x ∷ xs) = cc (put_fill_place d x, put_fill_places d xs)

    -- The same in a formula, under any number of binders.
    pub put_fill : (d : ℕ) (A : Formula) → put d t (fill (suc d) ρ A) ≡ fill d (t ∷ ρ) A
    unfolding put fill
    put_fill d top = refl
    put_fill d (and A B) = ap₂ and (put_fill d A) (put_fill d B)
    put_fill d (implies A B) = ap₂ implies (put_fill d A) (put_fill d B)
    put_fill d (all s A) = ap (all s) (put_fill (suc d) A)
    put_fill d (says k A) = ap₂ says (put_fill_place d k) (put_fill d A)
    put_fill d (at u v A) = cc (put_fill_place d u, put_fill_place d v, put_fill d A)
    put_fill d (atom p xs) = ap (atom p) (put_fill_places d xs)
    put_fill d (fact p xs) = ap (fact p) (put_fill_places d xs)
    put_fill d (order u v) = ap₂ order (put_fill_place d u) (put_fill_place d v)
    put_fill d (or A B) = ap₂ or (put_fill d A) (put_fill d B)
    put_fill d falsity = refl

-- ── No terms ──

fill_place_nothing : (d : ℕ) (x : Place) → fill_place d [] x ≡ x
unfolding fill_place put_for nth
fill_place_nothing d (fixed t) = refl
fill_place_nothing d (bound j) = elim (dec_lt j d) as (λ x. ite x (bound j) (bound j) ≡ bound j) [ yes l ↦ refl | no n ↦ refl ]

fill_places_nothing : (d : ℕ) (xs : List Place) → map (fill_place d []) xs ≡ xs
fill_places_nothing d [] = refl
fill_places_nothing d (x ∷ xs) = ap₂ ◌∷◌ (fill_place_nothing d x) (fill_places_nothing d xs)

pub fill_nothing : (d : ℕ) (A : Formula) → fill d [] A ≡ A
unfolding fill
fill_nothing d top = refl
fill_nothing d (and A B) = ap₂ and (fill_nothing d A) (fill_nothing d B)
fill_nothing d (implies A B) = ap₂ implies (fill_nothing d A) (fill_nothing d B)
fill_nothing d (all s A) = ap (all s) (fill_nothing (suc d) A)
fill_nothing d (says k A) = ap₂ says (fill_place_nothing d k) (fill_nothing d A)
fill_nothing d (at t u A) = cc (fill_place_nothing d t, fill_place_nothing d u, fill_nothing d A)
fill_nothing d (atom p xs) = ap (atom p) (fill_places_nothing d xs)
fill_nothing d (fact p xs) = ap (fact p) (fill_places_nothing d xs)
fill_nothing d (order t u) = ap₂ order (fill_place_nothing d t) (fill_place_nothing d u)
fill_nothing d (or A B) = ap₂ or (fill_nothing d A) (fill_nothing d B)
fill_nothing d falsity = refl
