-- The walk of each step of a tree is that step's own part, then the walks of the steps that it is made of.
use Prim.Native.Nat.{ℕ}
use mathlib.Core.Path.{◌≡◌, refl, ap}
use mathlib.Core.List.{List, ◌∷◌, map}
use Rattle.procap.specs.declared.time.Time.{Time}
use Rattle.procap.specs.declared.fact.Term.{Term}
use Rattle.bl.specs.Trees.{Formula, Infer, local, certificate, first, second, apply, instance, Check, pair, trivial, at_in, at_out, says_in, says_out, state, compare, or_left, or_right, or_out, falsity_out, inferred, offset}
use Rattle.bl.specs.Policy.{Policy}
use Rattle.bl.specs.Rules.{Assumption, plain, claim, shut, shut_out, View, view_of}
use Rattle.bl.specs.Questions.{Walk, done, misfit, ask, ◌>>=◌, ◌>>◌, Test}
use Rattle.bl.specs.Walk.{Judgement, need_cover, infer, check}
use Rattle.judging.specs.declared.judge.Shell.TheVariants.{AtShell, SaysShell, LeftShell, RightShell}
use Rattle.judging.specs.Judging.{and_then, use_local, use_certificate, and_sides, implies_sides, or_sides, at_parts, says_parts, inside, branches, falsity_inferred, top_goal, fact_goal, order_goal, first_side, second_side, put_in, fits_goal}

-- Three walks, one after another.
in_turn : {A B C : Type 0} (w : Walk A) (f : A → Walk B) (g : B → Walk C) → w >>= f >>= g ≡ w >>= (λ a. f a >>= g)
unfolding ◌>>=◌
in_turn (done a) f g = refl
in_turn (misfit q) f g = refl
in_turn (ask x q w) f g = ap (ask x q) (in_turn w f g)

-- 28, 2A, 2E and 2F: the step inside checks what stands inside of the goal: where the goal stood, or in the view of who says it with the plain assumptions shut out.
unfoldable pub check_inside : Policy → List Assumption → View → Check → Assumption → Test
check_inside π Γ v M (plain A a b) = check π Γ v M A a b
check_inside π Γ v M (claim k A a b) = check π (map shut_out Γ) (view_of k a b) M A a b
check_inside π Γ v M shut = misfit 0

-- 26 after its first step: both sides of the implication, and the interval that it must cover.
unfoldable pub use_implication : ℕ → Time → Time → Judgement → Walk (Formula × Formula)
use_implication q t1 t2 (F, a, b) = do
  x ← implies_sides q F
  need_cover q a b t1 t2
  done x

module _ (π : Policy) (Γ : List Assumption) (v : View) (q : ℕ) where
  -- The steps that infer.
  pub local_walk : (i : ℕ) → infer π Γ v (local q i) ≡ use_local π.pairs q v Γ i
  unfolding infer use_local
  local_walk i = refl

  pub certificate_walk : (i : ℕ) → infer π Γ v (certificate q i) ≡ use_certificate π.pairs q v π.statements i
  unfolding infer use_certificate
  certificate_walk i = refl

  pub first_walk : (M : Infer) → infer π Γ v (first q M) ≡ and_then (infer π Γ v M) (λ j. first_side q j)
  unfolding infer first_side and_sides ◌>>=◌
  first_walk M = simp in_turn

  pub second_walk : (M : Infer) → infer π Γ v (second q M) ≡ and_then (infer π Γ v M) (λ j. second_side q j)
  unfolding infer second_side and_sides ◌>>=◌
  second_walk M = simp in_turn

  pub instance_walk : (t : Term) (M : Infer) → infer π Γ v (instance q t M) ≡ and_then (infer π Γ v M) (put_in q t)
  unfolding infer put_in ◌>>=◌
  instance_walk t M = refl

  pub apply_walk : (M : Infer) (N : Check) (t1 t2 : Time) → infer π Γ v (apply q M N t1 t2)
      ≡ and_then (and_then (infer π Γ v M) (use_implication q t1 t2)) (λ x. and_then (check π Γ v N x.0 t1 t2) (λ _. done (x.1, t1, t2)))
  unfolding infer use_implication implies_sides ◌>>=◌
  apply_walk M N t1 t2 = simp in_turn

  module _ (G : Formula) (a b : Time) where
    -- The steps that check.
    pub pair_walk : (M N : Check) → check π Γ v (pair q M N) G a b ≡ and_then (and_sides q G) (λ x. check π Γ v M x.0 a b >> check π Γ v N x.1 a b)
    unfolding check and_sides ◌>>=◌
    pair_walk M N = simp in_turn

    pub trivial_walk : check π Γ v (trivial q) G a b ≡ top_goal q G
    unfolding check top_goal
    trivial_walk = refl

    pub state_walk : check π Γ v (state q) G a b ≡ fact_goal q G
    unfolding check fact_goal
    state_walk = refl

    pub compare_walk : check π Γ v (compare q) G a b ≡ order_goal q G
    unfolding check order_goal
    compare_walk = refl

    pub at_in_walk : (M : Check) → check π Γ v (at_in q M) G a b ≡ and_then (inside AtShell q (G, a, b)) (check_inside π Γ v M)
    unfolding check inside check_inside at_parts ◌>>=◌
    at_in_walk M = simp in_turn

    pub at_out_walk : (M : Infer) (N : Check) → check π Γ v (at_out q M N) G a b
        ≡ and_then (and_then (infer π Γ v M) (inside AtShell q)) (λ x. check π (x ∷ Γ) v N G a b)
    unfolding check inside at_parts ◌>>=◌
    at_out_walk M N = simp in_turn

    pub says_in_walk : (M : Check) → check π Γ v (says_in q M) G a b ≡ and_then (inside SaysShell q (G, a, b)) (check_inside π Γ v M)
    unfolding check inside check_inside says_parts ◌>>=◌
    says_in_walk M = simp in_turn

    pub says_out_walk : (M : Infer) (N : Check) → check π Γ v (says_out q M N) G a b
        ≡ and_then (and_then (infer π Γ v M) (inside SaysShell q)) (λ x. check π (x ∷ Γ) v N G a b)
    unfolding check inside says_parts ◌>>=◌
    says_out_walk M N = simp in_turn

    pub or_left_walk : (M : Check) → check π Γ v (or_left q M) G a b ≡ and_then (inside LeftShell q (G, a, b)) (check_inside π Γ v M)
    unfolding check inside check_inside or_sides ◌>>=◌
    or_left_walk M = simp in_turn

    pub or_right_walk : (M : Check) → check π Γ v (or_right q M) G a b ≡ and_then (inside RightShell q (G, a, b)) (check_inside π Γ v M)
    unfolding check inside check_inside or_sides ◌>>=◌
    or_right_walk M = simp in_turn

    pub or_out_walk : (M : Infer) (N O : Check) → check π Γ v (or_out q M N O) G a b
        ≡ and_then (and_then (infer π Γ v M) (branches q)) (λ x. check π (x.0 ∷ Γ) v N G a b >> check π (x.1 ∷ Γ) v O G a b)
    unfolding check branches or_sides ◌>>=◌
    or_out_walk M N O = simp in_turn

    pub falsity_out_walk : (M : Infer) → check π Γ v (falsity_out q M) G a b ≡ and_then (infer π Γ v M) (falsity_inferred q)
    unfolding check falsity_inferred ◌>>=◌
    falsity_out_walk M = refl

    -- An inferring step where one is checked, at the offset of its own tag.
    pub inferred_walk : (M : Infer) → offset M ≡ q → check π Γ v (inferred M) G a b ≡ and_then (infer π Γ v M) (λ j. fits_goal q j.0 j.1 j.2 G a b)
    unfolding check fits_goal
    inferred_walk M e = rw e
