-- Formulas of different tags are of different kinds, or for-alls of different sorts, and so they differ.
use Prim.Native.Nat.{ℕ, ◌≤◌}
use mathlib.Core.Path.{◌≡◌, refl, sym, ap, ◌∙◌}
use mathlib.Core.List.{List}
use Rattle.std.proofs.lemmas.Option.{none-some}
use Rattle.std.specs.Prelude.{None, Option, Some}
use native.Mathlib.Omega.{arith}
use Rattle.bl.specs.declared.FormulaTag.{FormulaTag}
use Rattle.bl.specs.declared.FormulaTag.TheVariants.{TopTag, AndTag, ImpliesTag, AllNamesTag, AllTimesTag, SaysTag, AtTag, AtomTag, FactTag, OrderTag, OrTag, FalsityTag}
use Rattle.bl.specs.declared.Sort.{Sort}
use Rattle.bl.specs.declared.Sort.TheVariants.{Names, Times}
use Rattle.bl.specs.Trees.{Formula, all}
use Rattle.bl.specs.Formulas.{formula}
use Rattle.bl.specs.Questions.{misfit, ◌>>=◌, ◌>>◌, need}
use Rattle.bl.specs.Kinds.{as_top, as_and, as_implies, as_all, as_says, as_at, as_atom, as_fact, as_order, as_or, as_falsity}
use Rattle.bl.specs.Walk.{same_sort, same}
use Rattle.ledger.specs.declared.Ledger.{Ledger}
use Rattle.formula.specs.declared.parts.FormulaAt.{FormulaAt}
use Rattle.formula.specs.declared.compare.Compared.{Compared}
use Rattle.formula.specs.Meaning.{tag_of, Means}
use Rattle.formula.specs.Comparing.{Two, LeadsTo, ComparesPair}
use Rattle.formula.proofs.Shapes as shapes
use Rattle.formula.proofs.Comparing.{not_there, leads_as}

-- ── For-alls ──

other_sorts : (q : ℕ) (s s' : Sort) → (s ≡ s' → ⊥) → same_sort q s s' ≡ misfit q
unfolding same_sort
other_sorts q Names Names n = absurd (n refl)
other_sorts q Names Times n = refl
other_sorts q Times Names n = refl
other_sorts q Times Times n = absurd (n refl)

-- What is seen as no for-all is none, and a for-all has one sort.
none_seen : (G : Formula) (s : Sort) (A : Formula) → as_all G ≡ None → G ≡ all s A → ⊥
unfolding as_all
none_seen G s A none_such is =
    let seen : as_all (all s A) ≡ None = rw is at none_such in
    let z : ◌≡◌ {A = ℕ} 0 1 = cc in
    absurd (omega arith)

one_sort : (G A B : Formula) → G ≡ all Names A → G ≡ all Times B → ⊥
one_sort G A B is is' = let z : ◌≡◌ {A = ℕ} 0 1 = cc in absurd (omega arith)

module _ (bytes : List ℕ) (d : ℕ) (f : FormulaAt) {G : Formula} (n : Means bytes d f G) where
  -- Without the tag of its sort there is no for-all of it.
  not_this_sort : (s : Sort) (A : Formula) → (tag_of bytes f.at ≡ Some (shapes.binder_tag s) → ⊥) → G ≡ all s A → ⊥
  unfolding shapes.binder_tag
  not_this_sort Names A other is =
      none_seen G Names A (shapes.not_all bytes d f n other (λ tag. one_sort G A _ is (shapes.all_shape bytes d f n Times tag).is)) is
  not_this_sort Times A other is =
      none_seen G Times A (shapes.not_all bytes d f n (λ tag. one_sort G _ A (shapes.all_shape bytes d f n Names tag).is is) other) is

  other_binder : (q : ℕ) (s : Sort) (A : Formula) → (tag_of bytes f.at ≡ Some (shapes.binder_tag s) → ⊥) → same q (all s A) G ≡ misfit q
  unfolding same need ◌>>=◌
  other_binder q s A other = by (as_all G)
    where
      by : (o : Option ((s' : Sort) × (B : Formula) × (G ≡ all s' B))) → (need q o >>= λ (s', B, _). same_sort q s s' >> same q A B) ≡ misfit q
      by None = refl
      by (Some x) = rw (other_sorts q s x.0 (λ same. not_this_sort s x.1 other (x.2 ∙ ap (λ s'. all s' x.1) (sym same))))

-- ── All kinds ──

module _ (left_bytes right_bytes : List ℕ) (d : ℕ) (left right : FormulaAt) (q : ℕ) {F G : Formula}
    (m : Means left_bytes d left F) (n : Means right_bytes d right G) where
  -- F is seen by its tag, and G is not of that kind.
  seen : {H : Formula} → F ≡ H → same q H G ≡ misfit q → same q F G ≡ misfit q
  seen is e = ap (λ K. same q K G) is ∙ e

  other_tags : (tag : FormulaTag) → tag_of left_bytes left.at ≡ Some tag → (tag_of right_bytes right.at ≡ Some tag → ⊥) → same q F G ≡ misfit q
  unfolding same shapes.binder_tag
  other_tags TopTag e other = seen (shapes.top_shape left_bytes d left m e).is (not_there q (as_top G) _ (shapes.not_top right_bytes d right n other))
  other_tags AndTag e other = seen (shapes.and_shape left_bytes d left m e).is (not_there q (as_and G) _ (shapes.not_and right_bytes d right n other))
  other_tags ImpliesTag e other =
      seen (shapes.implies_shape left_bytes d left m e).is (not_there q (as_implies G) _ (shapes.not_implies right_bytes d right n other))
  other_tags AllNamesTag e other =
      let x = shapes.all_shape left_bytes d left m Names e in seen x.is (other_binder right_bytes d right n q Names x.body other)
  other_tags AllTimesTag e other =
      let x = shapes.all_shape left_bytes d left m Times e in seen x.is (other_binder right_bytes d right n q Times x.body other)
  other_tags SaysTag e other = seen (shapes.says_shape left_bytes d left m e).is (not_there q (as_says G) _ (shapes.not_says right_bytes d right n other))
  other_tags AtTag e other = seen (shapes.at_shape left_bytes d left m e).is (not_there q (as_at G) _ (shapes.not_at right_bytes d right n other))
  other_tags AtomTag e other = seen (shapes.atom_shape left_bytes d left m e).is (not_there q (as_atom G) _ (shapes.not_atom right_bytes d right n other))
  other_tags FactTag e other = seen (shapes.fact_shape left_bytes d left m e).is (not_there q (as_fact G) _ (shapes.not_fact right_bytes d right n other))
  other_tags OrderTag e other =
      seen (shapes.order_shape left_bytes d left m e).is (not_there q (as_order G) _ (shapes.not_order right_bytes d right n other))
  other_tags OrTag e other = seen (shapes.or_shape left_bytes d left m e).is (not_there q (as_or G) _ (shapes.not_or right_bytes d right n other))
  other_tags FalsityTag e other =
      seen (shapes.falsity_shape left_bytes d left m e).is (not_there q (as_falsity G) _ (shapes.not_falsity right_bytes d right n other))

-- A formula has a level.
some_level : (bytes : List ℕ) (d : ℕ) (f : FormulaAt) (F : Formula) (m : Means bytes d f F) → m.level ≤ 0 → ⊥
unfolding formula
some_level bytes d f F m low =
    let is : m.level ≡ 0 = omega arith in
    let reads : formula bytes 0 m.sorts f.at ≡ Some (m.tree, m.end) = rw is at m.reads in
    let z : ◌≡◌ {A = ℕ} 0 1 = cc reads in
    absurd (omega arith)

module _ (left_bytes right_bytes : List ℕ) (pair : Two) (l : Ledger) (levels : ℕ) (r : Compared) where
  -- With no levels left there is nothing to compare.
  pub no_levels : levels ≡ 0 → ComparesPair left_bytes right_bytes pair l levels r
  no_levels is F G m n low = absurd (some_level left_bytes pair.under pair.left F m (rw is at low))

  -- Without a tag there is no formula to compare.
  pub no_tag : tag_of left_bytes pair.left.at ≡ None → ComparesPair left_bytes right_bytes pair l levels r
  no_tag none F G m n low = absurd (none-some _ (sym none ∙ shapes.tagged left_bytes pair.under pair.left m))

  -- With different tags the formulas do not fit.
  pub unlike : (tag_of left_bytes pair.left.at ≡ tag_of right_bytes pair.right.at → ⊥)
      → ((e e' : ℕ) → LeadsTo l (misfit pair.offset) r e e') → ComparesPair left_bytes right_bytes pair l levels r
  unlike differ misfits F G m n low =
      let tagged = shapes.tagged left_bytes pair.under pair.left m in
      let other = other_tags left_bytes right_bytes pair.under pair.left pair.right pair.offset m n _ tagged (λ same. differ (tagged ∙ sym same)) in
      leads_as l (same pair.offset F G) (misfit pair.offset) r m.end m.end n.end n.end other refl refl (misfits m.end n.end)
