-- Terms kept as one number each: one term more joins those put in, and a variable finds the term put in for it.
use Prim.Native.Nat.{ℕ, suc, ◌+◌, ◌-◌, ◌≤◌, ◌<◌}
use mathlib.Core.Path.{◌≡◌, sym, ap, ◌∙◌}
use mathlib.Core.List.{List, ◌∷◌}
use mathlib.Core.Logic.{if_pos, if_neg}
use native.Mathlib.Decide.{dec_lt}
use native.Mathlib.Numerals.{add-one}
use native.Mathlib.Omega.{arith}
use borrow.Author.Tests.{lt-ltb}
use lib.ListN.{length, set, length-set}
use lib.Seq.{get_or-set_same, get_or-set_other}
use Rattle.procap.specs.Lists.{nth}
use Rattle.procap.specs.Numbered.{of_number, number_of_term}
use Rattle.procap.specs.Writable.{TermInForm}
use Rattle.procap.proofs.Numbered.{term_in_one}
use Rattle.procap.specs.declared.fact.Term.{Term}
use Rattle.bl.specs.Trees.{fixed, bound}
use Rattle.bl.specs.Formulas.{most_binders}
use Rattle.formula.specs.declared.terms.Terms.{Terms}
use Rattle.formula.specs.PutIn.{slot, terms_of, terms_with, FewTerms, put_for, fill_place}
use Rattle.formula.proofs.Stacks.{nth_stack, nth_stack_none, stack_more}

-- ── One term more ──

module _ (numbers : List ℕ) (n x : ℕ) where
  -- A number stored at an index stands there, and those below stay.
  slot_stored : n < length numbers → slot (set numbers n x) n ≡ of_number x
  unfolding slot
  slot_stored room = ap of_number (get_or-set_same numbers n x 0 room)

  slot_below : (i : ℕ) → i < n → slot (set numbers n x) i ≡ slot numbers i
  unfolding slot
  slot_below i l = ap of_number (get_or-set_other numbers n i x 0 (λ e. omega arith))

module _ (t : Terms) (x : ℕ) where
  -- The terms with one more stored after them.
  abbrev put_after : Terms
  put_after = record { count = t.count + 1; numbers = set t.numbers t.count x }

  put_few : FewTerms t → t.count < most_binders → FewTerms put_after
  put_few few l = record { few = omega arith; room = simp length-set few.room }

  put_terms : (u : Term) → of_number x ≡ u → FewTerms t → t.count < most_binders → terms_of put_after ≡ (u ∷ terms_of t)
  unfolding terms_of
  put_terms u e few l =
      stack_more _ _ t.count u
      (slot_stored t.numbers t.count x (omega (arith, few.room)) ∙ e)
      (slot_below t.numbers t.count x)

-- With room for one more, the term is stored after the others, and is read back if bytes can hold it.
module _ (t : Terms) (u : Term) {r : Terms} (put : r ≡ terms_with t u) (room : t.count < most_binders) where
  stored : r ≡ put_after t (number_of_term u)
  unfolding terms_with
  stored = put ∙ rw (lt-ltb t.count most_binders room)

  pub with_few : FewTerms t → FewTerms r
  with_few few = rw stored (put_few t (number_of_term u) few room)

  pub with_count : r.count ≡ suc t.count
  with_count = rw stored (add-one t.count)

  pub with_terms : TermInForm u → FewTerms t → terms_of r ≡ (u ∷ terms_of t)
  with_terms form few = rw stored (put_terms t (number_of_term u) u (term_in_one u form) few room)

-- ── What stands for a variable ──

module _ (under : ℕ) (t : Terms) (j : ℕ) where
  -- Under a binder of its own it stays.
  pub own_bound : j < under → bound j ≡ fill_place under (terms_of t) (bound j)
  unfolding fill_place
  own_bound l = sym (if_pos (dec_lt j under) l _ _)

  -- Else it is what was put in so far back, and stays where nothing was.
  module _ (l : under ≤ j) where
    beyond : fill_place under (terms_of t) (bound j) ≡ put_for j (nth (terms_of t) (j - under))
    unfolding fill_place
    beyond = if_neg (dec_lt j under) (λ h. omega arith) _ _

    pub not_put : t.count ≤ j - under → bound j ≡ fill_place under (terms_of t) (bound j)
    unfolding terms_of put_for
    not_put m = sym (beyond ∙ ap (put_for j) (nth_stack_none _ t.count (j - under) m))

    pub is_put : (u : Term) → j - under < t.count → u ≡ slot t.numbers (t.count - (j - under) - 1)
        → fixed u ≡ fill_place under (terms_of t) (bound j)
    unfolding terms_of put_for
    is_put u m e = ap fixed e ∙ sym (beyond ∙ ap (put_for j) (nth_stack _ t.count (j - under) m))
