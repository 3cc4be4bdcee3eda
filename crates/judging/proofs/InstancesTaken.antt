-- A for-all that a term is put in for: of its sort, of another sort, or no for-all.
use Prim.Native.Nat.{ℕ, ◌<◌}
use mathlib.Core.Path.{◌≡◌, refl, ◌∙◌, ap}
use mathlib.Core.List.{List}
use Rattle.std.specs.Prelude.{None, Option, Some}
use mathlib.Core.Logic.{◌⊎◌, inl, inr}
use native.Mathlib.Omega.{arith}
use Rattle.procap.specs.Writable.{TermInForm}
use Rattle.procap.specs.declared.time.Time.{Time}
use Rattle.procap.specs.declared.fact.Term.{Term}
use Rattle.procap.specs.declared.fact.Term.TheVariants.{Name, When}
use Rattle.bl.specs.declared.Sort.{Sort}
use Rattle.bl.specs.declared.Sort.TheVariants.{Names, Times}
use Rattle.bl.specs.Trees.{Formula, all, put}
use Rattle.bl.specs.Formulas.{most_binders}
use Rattle.bl.specs.Kinds.{as_all}
use Rattle.bl.specs.Questions.{done, misfit}
use Rattle.bl.specs.Walk.{need_sort}
use Rattle.ledger.specs.declared.Ledger.{Ledger}
use Rattle.formula.specs.declared.terms.Terms.{Terms}
use Rattle.formula.specs.declared.parts.FormulaAt.{FormulaAt}
use Rattle.formula.specs.declared.parts.Judgement.{Judgement}
use Rattle.formula.specs.PutIn.{terms_with}
use Rattle.formula.specs.Meaning.{tag_of, Means, On}
use Rattle.judging.specs.Judging.{put_in, Takes, takes}
use Rattle.judging.specs.Pieces.{binder_of}
use Rattle.formula.proofs.PuttingIn.{with_few, with_count, with_terms}
use Rattle.formula.proofs.Shapes.{binder_tag, inside, all_shape, not_all, instance_means}
use Rattle.judging.proofs.WalkParts.{all_there, other_sort, no_all}
use Rattle.judging.proofs.PartsTaken.{After}

-- The sort of a term: that of its binder, which it fits.
unfoldable sort_of : Term → Sort
sort_of (Name n) = Names
sort_of (When t) = Times

own_binder : (t : Term) → binder_of t ≡ binder_tag (sort_of t)
unfolding sort_of binder_of binder_tag
own_binder (Name n) = refl
own_binder (When t) = refl

own_sort : (q : ℕ) (t : Term) → need_sort q (sort_of t) t ≡ done tt
unfolding sort_of need_sort
own_sort q (Name n) = refl
own_sort q (When t) = refl

-- A sort is the term's, or the term does not fit it.
its_sort : (q : ℕ) (s : Sort) (t : Term) → (need_sort q s t ≡ misfit q) ⊎ (binder_tag s ≡ binder_of t)
unfolding need_sort binder_of binder_tag
its_sort q Names (Name n) = inr refl
its_sort q Names (When t) = inl refl
its_sort q Times (Name n) = inl refl
its_sort q Times (When t) = inr refl

-- A for-all is one, and of one sort.
is_an_all : {F A : Formula} {s : Sort} → F ≡ all s A → as_all F ≡ None → ⊥
unfolding as_all
is_an_all {F} {A} {s} e n = let h : as_all (all s A) ≡ None = rw e at n in let z : ◌≡◌ {A = ℕ} 0 1 = cc in omega arith

of_one_sort : {F A B : Formula} → F ≡ all Names A → F ≡ all Times B → ⊥
of_one_sort e f = let z : ◌≡◌ {A = ℕ} 0 1 = cc in omega arith

module _ {bytes : List ℕ} {f : FormulaAt} {F : Formula} (m : Means bytes 0 f F) where
  -- It has the tag of its sort.
  all_tagged : (s : Sort) {A : Formula} → F ≡ all s A → (tag_of bytes f.at ≡ Some (binder_tag s) → ⊥) → ⊥
  unfolding binder_tag
  all_tagged Names e n = is_an_all e (not_all bytes 0 f m n (λ h. of_one_sort e (all_shape bytes 0 f m Times h).is))
  all_tagged Times e n = is_an_all e (not_all bytes 0 f m (λ h. of_one_sort (all_shape bytes 0 f m Names h).is e) n)

  -- Another tag than that of the term's binder.
  pub instance_missing : (q : ℕ) (t : Term) (a b : Time) → (tag_of bytes f.at ≡ Some (binder_of t) → ⊥) → put_in q t (F, a, b) ≡ misfit q
  instance_missing q t a b n = by (as_all F) refl
    where
      kind : {s : Sort} {A : Formula} → F ≡ all s A → (need_sort q s t ≡ misfit q) ⊎ (binder_tag s ≡ binder_of t) → put_in q t (F, a, b) ≡ misfit q
      kind e (inl g) = other_sort q t a b e g
      kind {s} e (inr g) = absurd (all_tagged s e (λ k. n (k ∙ ap Some g)))

      by : (o : Option ((s : Sort) × (A : Formula) × (F ≡ all s A))) → as_all F ≡ o → put_in q t (F, a, b) ≡ misfit q
      by None h = no_all q t a b h
      by (Some (s, A, e)) h = kind e (its_sort q s t)

-- The tag of the term's binder: the body, with the term put in.
pub instance_there : {bytes : List ℕ} (j : Judgement) {F : Formula} {a b : Time} {l : Ledger} {at : ℕ} {more : Terms} {body : Judgement}
    (o : On bytes j F a b) (q : ℕ) (t : Term) → tag_of bytes j.formula.at ≡ Some (binder_of t)
    → After bytes j.formula.at at → TermInForm t → more ≡ terms_with j.formula.terms t
    → body ≡ record { formula = record { at = at; terms = more }; from = j.from; to = j.to }
    → Takes (put_in q t (F, a, b)) q l l (λ x. On bytes body x.0 x.1 x.2)
instance_there {bytes} j {F} {a} {b} {l} {at} {more} {body} o q t tag next form more-is e =
    let m = o.means in
    let s = all_shape bytes 0 j.formula m (sort_of t) (tag ∙ ap Some (own_binder t)) in
    let n = next (inside bytes 0 j.formula m) in
    let room : j.formula.terms.count < most_binders = omega (arith, s.room) in
    let means =
    instance_means bytes j.formula m (sort_of t) s t more (with_few _ t more-is room m.few) (with_count _ t more-is room) (with_terms _ t more-is room form m.few) in
    takes (put 0 t s.body, a, b) (all_there q t a b s.is (own_sort q t)) refl
    (rw (e, n) (record { means = means; from = o.from; to = o.to }))
