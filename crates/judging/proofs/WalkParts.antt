-- What the parts of the walk come to, by the kind of the formula or of the place that they look at.
use Prim.Native.Nat.{ℕ}
use mathlib.Core.Path.{◌≡◌, refl}
use mathlib.Core.List.{List, map}
use Rattle.std.specs.Prelude.{None, Option, Some}
use mathlib.Core.Logic.{if_pos, if_neg}
use Rattle.procap.specs.declared.time.Time.{Time}
use Rattle.procap.specs.declared.fact.Term.{Term}
use Rattle.procap.specs.declared.fact.Term.TheVariants.{Name, When}
use Rattle.bl.specs.declared.Sort.{Sort}
use Rattle.bl.specs.Trees.{Place, fixed, Formula, top, and, implies, all, says, at, fact, order, or, falsity, put}
use Rattle.bl.specs.Questions.{Walk, done, misfit, ◌>>=◌, ask_order, ask_fact, need}
use Rattle.bl.specs.Kinds.{as_name, as_time, as_terms, as_top, as_and, as_implies, as_all, as_says, as_at, as_fact, as_order, as_or, as_falsity}
use Rattle.bl.specs.Strength.{Pair, AsStrong}
use Rattle.bl.specs.Deciding.{as_strong?}
use Rattle.bl.specs.Rules.{view_of}
use Rattle.bl.specs.Walk.{need_cover, need_strength, need_view, need_sort}
use Rattle.judging.specs.Judging.{and_sides, implies_sides, or_sides, falsity_inferred, at_parts, says_parts, top_goal, fact_goal, order_goal, put_in}
use Rattle.judging.specs.Pieces.{two_times}

module _ (q : ℕ) where
  -- ── Views ──

  -- The view of somebody whom the principal is as strong as, and of another.
  module _ (ps : List Pair) (j k : ℕ) (a b c d : Time) where
    pub own_view : AsStrong ps k j → need_view ps q (view_of j c d) k a b ≡ need_cover q a b c d
    unfolding need_view need_strength ◌>>=◌
    own_view strong = rw (if_pos (as_strong? ps k j) strong (done (tt {0})) (misfit q))

    pub other_view : (AsStrong ps k j → ⊥) → need_view ps q (view_of j c d) k a b ≡ misfit q
    unfolding need_view need_strength ◌>>=◌
    other_view weak = rw (if_neg (as_strong? ps k j) weak (done (tt {0})) (misfit q))

  -- ── What must be there ──

  -- A line that comes to nothing makes the whole come to nothing.
  need_misfits : {A B : Type 0} (o : Option A) (f : A → Walk B) → ((a : A) → f a ≡ misfit q) → need q o >>= f ≡ misfit q
  unfolding need ◌>>=◌
  need_misfits None f h = refl
  need_misfits (Some a) f h = h a

  -- Two lines and what comes after them are the two lines, and then what comes after them.
  both_first : {A B C D : Type 0} (o : Option A) (p : Option B) (f : A → B → C) (g : C → Walk D)
      → need q o >>= (λ a. need q p >>= λ b. g (f a b)) ≡ (need q o >>= λ a. need q p >>= λ b. done (f a b)) >>= g
  unfolding need ◌>>=◌
  both_first None p f g = refl
  both_first (Some a) None f g = refl
  both_first (Some a) (Some b) f g = refl

  -- ── Two times ──

  pub times_there : {x y : Place} {t u : Time} → x ≡ fixed (When t) → y ≡ fixed (When u) → two_times q x y ≡ done (t, u)
  unfolding two_times need as_time ◌>>=◌
  times_there e f = rw (e, f)

  pub no_first_time : {x : Place} (y : Place) → as_time x ≡ None → two_times q x y ≡ misfit q
  unfolding two_times need ◌>>=◌
  no_first_time y e = rw e

  pub no_second_time : (x : Place) {y : Place} → as_time y ≡ None → two_times q x y ≡ misfit q
  unfolding two_times need ◌>>=◌
  no_second_time x e = need_misfits (as_time x) _ (λ a. rw e)

  -- ── Formulas: of the kind that is wanted, and of another ──

  module _ {F : Formula} where
    pub and_parts : {A B : Formula} → F ≡ and A B → and_sides q F ≡ done (A, B)
    unfolding and_sides need as_and ◌>>=◌
    and_parts e = rw e

    pub no_and : as_and F ≡ None → and_sides q F ≡ misfit q
    unfolding and_sides need ◌>>=◌
    no_and e = rw e

    pub implies_parts : {A B : Formula} → F ≡ implies A B → implies_sides q F ≡ done (A, B)
    unfolding implies_sides need as_implies ◌>>=◌
    implies_parts e = rw e

    pub no_implies : as_implies F ≡ None → implies_sides q F ≡ misfit q
    unfolding implies_sides need ◌>>=◌
    no_implies e = rw e

    pub or_parts : {A B : Formula} → F ≡ or A B → or_sides q F ≡ done (A, B)
    unfolding or_sides need as_or ◌>>=◌
    or_parts e = rw e

    pub no_or : as_or F ≡ None → or_sides q F ≡ misfit q
    unfolding or_sides need ◌>>=◌
    no_or e = rw e

    pub top_there : F ≡ top → top_goal q F ≡ done tt
    unfolding top_goal need as_top ◌>>=◌
    top_there e = rw e

    pub no_top : as_top F ≡ None → top_goal q F ≡ misfit q
    unfolding top_goal need ◌>>=◌
    no_top e = rw e

    pub falsity_there : (a b : Time) → F ≡ falsity → falsity_inferred q (F, a, b) ≡ done tt
    unfolding falsity_inferred need as_falsity ◌>>=◌
    falsity_there a b e = rw e

    pub no_falsity : (a b : Time) → as_falsity F ≡ None → falsity_inferred q (F, a, b) ≡ misfit q
    unfolding falsity_inferred need ◌>>=◌
    no_falsity a b e = rw e

    -- An "at" and an order begin with two times.
    pub at_there : {x y : Place} {A : Formula} → F ≡ at x y A → at_parts q F ≡ two_times q x y >>= (λ t. done (A, t.0, t.1))
    unfolding at_parts need as_at two_times ◌>>=◌
    at_there {x} {y} {A} e = rw e (both_first (as_time x) (as_time y) (λ a b. (a.0, b.0)) (λ t. done (A, t.0, t.1)))

    pub no_at : as_at F ≡ None → at_parts q F ≡ misfit q
    unfolding at_parts need ◌>>=◌
    no_at e = rw e

    pub order_there : {x y : Place} → F ≡ order x y → order_goal q F ≡ two_times q x y >>= (λ t. ask_order q t.0 t.1)
    unfolding order_goal need as_order two_times ◌>>=◌
    order_there {x} {y} e = rw e (both_first (as_time x) (as_time y) (λ a b. (a.0, b.0)) (λ t. ask_order q t.0 t.1))

    pub no_order : as_order F ≡ None → order_goal q F ≡ misfit q
    unfolding order_goal need ◌>>=◌
    no_order e = rw e

    pub says_there : {x : Place} {A : Formula} {k : ℕ} → F ≡ says x A → x ≡ fixed (Name k) → says_parts q F ≡ done (k, A)
    unfolding says_parts need as_says as_name ◌>>=◌
    says_there e f = rw (e, f)

    pub no_name : {x : Place} {A : Formula} → F ≡ says x A → as_name x ≡ None → says_parts q F ≡ misfit q
    unfolding says_parts need as_says ◌>>=◌
    no_name e f = rw (e, f)

    pub no_says : as_says F ≡ None → says_parts q F ≡ misfit q
    unfolding says_parts need ◌>>=◌
    no_says e = rw e

    pub fact_there : {p : ℕ} {xs : List Place} {ts : List Term} (h : xs ≡ map fixed ts) → F ≡ fact p xs → as_terms xs ≡ Some (ts, h)
        → fact_goal q F ≡ ask_fact q (p, ts)
    unfolding fact_goal need as_fact ◌>>=◌
    fact_there h e f = rw (e, f)

    pub no_terms : {p : ℕ} {xs : List Place} → F ≡ fact p xs → as_terms xs ≡ None → fact_goal q F ≡ misfit q
    unfolding fact_goal need as_fact ◌>>=◌
    no_terms e f = rw (e, f)

    pub no_fact : as_fact F ≡ None → fact_goal q F ≡ misfit q
    unfolding fact_goal need ◌>>=◌
    no_fact e = rw e

    -- A for-all: of the sort of the term, of another.
    module _ (t : Term) (a b : Time) where
      pub all_there : {s : Sort} {A : Formula} → F ≡ all s A → need_sort q s t ≡ done tt → put_in q t (F, a, b) ≡ done (put 0 t A, a, b)
      unfolding put_in need as_all ◌>>=◌
      all_there e f = rw (e, f)

      pub other_sort : {s : Sort} {A : Formula} → F ≡ all s A → need_sort q s t ≡ misfit q → put_in q t (F, a, b) ≡ misfit q
      unfolding put_in need as_all ◌>>=◌
      other_sort e f = rw (e, f)

      pub no_all : as_all F ≡ None → put_in q t (F, a, b) ≡ misfit q
      unfolding put_in need ◌>>=◌
      no_all e = rw e
