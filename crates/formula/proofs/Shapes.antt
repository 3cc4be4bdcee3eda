-- What is seen of a formula in bytes from its tag: its shape (passed on from FormulaShapes), which kinds it is not, and an instance of a for-all.
-- By its shapes a formula has the tag of its kind, so with another tag it is not of that kind; and a term put in is one more on the list.
use Prim.Native.Nat.{ℕ, suc, ◌+◌}
use mathlib.Core.Path.{◌≡◌, refl, sym, ap, ◌∙◌}
use mathlib.Core.List.{List, ◌∷◌}
use Rattle.std.specs.Prelude.{None, Option, Some}
use native.Mathlib.Omega.{arith}
use Rattle.procap.specs.declared.fact.Term.{Term}
use Rattle.bl.specs.declared.FormulaTag.{FormulaTag}
use Rattle.bl.specs.declared.FormulaTag.TheVariants.{TopTag, AndTag, ImpliesTag, AllNamesTag, AllTimesTag, SaysTag, AtTag, AtomTag, FactTag, OrderTag, OrTag, FalsityTag}
use Rattle.bl.specs.declared.Sort.{Sort}
use Rattle.bl.specs.declared.Sort.TheVariants.{Names, Times}
use Rattle.bl.specs.Trees.{Formula, top, and, implies, all, says, at, atom, fact, order, or, falsity, put}
use Rattle.bl.specs.Kinds.{as_top, as_and, as_implies, as_all, as_says, as_at, as_atom, as_fact, as_order, as_or, as_falsity}
use Rattle.formula.specs.declared.terms.Terms.{Terms}
use Rattle.formula.specs.declared.parts.FormulaAt.{FormulaAt}
use Rattle.formula.specs.PutIn.{terms_of, FewTerms}
use Rattle.formula.specs.Meaning.{tag_of, Means}
use Rattle.formula.proofs.Filling.{put_fill}
unfoldable pub use Rattle.formula.proofs.FormulaShapes.{binder_tag}
pub use Rattle.formula.proofs.FormulaShapes.{Stands, Part, inside, its_tag, tagged, LeafShape, top_shape, falsity_shape, TwoParts, SidesShape, and_shape, implies_shape, or_shape, AllShape, all_shape}
pub use Rattle.formula.proofs.FormulaShapes.{SaysShape, says_shape, AtShape, at_shape, Headed, AtomShape, atom_shape, FactShape, fact_shape, OrderShape, order_shape}

-- The tag that a formula begins with.
unfoldable pub kind : Formula → FormulaTag
kind top = TopTag
kind (and A B) = AndTag
kind (implies A B) = ImpliesTag
kind (all s A) = binder_tag s
kind (says k A) = SaysTag
kind (at t u A) = AtTag
kind (atom p ts) = AtomTag
kind (fact p ts) = FactTag
kind (order t u) = OrderTag
kind (or A B) = OrTag
kind falsity = FalsityTag

-- Where there can be no value there is none.
none_there : {X : Type 0} (o : Option X) → (X → ⊥) → o ≡ None
none_there None n = refl
none_there (Some x) n = absurd (n x)

module _ (bytes : List ℕ) (d : ℕ) (f : FormulaAt) {F : Formula} (m : Means bytes d f F) where
  -- The tag is that of the formula's kind.
  kind_by : (tag : FormulaTag) → tag_of bytes f.at ≡ Some tag → kind F ≡ tag
  unfolding kind binder_tag
  kind_by TopTag e = ap kind (top_shape bytes d f m e).is
  kind_by AndTag e = ap kind (and_shape bytes d f m e).is
  kind_by ImpliesTag e = ap kind (implies_shape bytes d f m e).is
  kind_by AllNamesTag e = ap kind (all_shape bytes d f m Names e).is
  kind_by AllTimesTag e = ap kind (all_shape bytes d f m Times e).is
  kind_by SaysTag e = ap kind (says_shape bytes d f m e).is
  kind_by AtTag e = ap kind (at_shape bytes d f m e).is
  kind_by AtomTag e = ap kind (atom_shape bytes d f m e).is
  kind_by FactTag e = ap kind (fact_shape bytes d f m e).is
  kind_by OrderTag e = ap kind (order_shape bytes d f m e).is
  kind_by OrTag e = ap kind (or_shape bytes d f m e).is
  kind_by FalsityTag e = ap kind (falsity_shape bytes d f m e).is

  -- So the tag is that of any formula that it is equal to.
  pub tag_is : {G : Formula} → F ≡ G → tag_of bytes f.at ≡ Some (kind G)
  tag_is e = tagged bytes d f m ∙ ap Some (sym (kind_by _ (tagged bytes d f m)) ∙ ap kind e)

  -- Another tag is another kind.
  pub not_top : (tag_of bytes f.at ≡ Some TopTag → ⊥) → as_top F ≡ None
  unfolding kind
  not_top n = none_there (as_top F) λ x. n (tag_is x)

  pub not_and : (tag_of bytes f.at ≡ Some AndTag → ⊥) → as_and F ≡ None
  unfolding kind
  not_and n = none_there (as_and F) λ x. n (tag_is x.2)

  pub not_implies : (tag_of bytes f.at ≡ Some ImpliesTag → ⊥) → as_implies F ≡ None
  unfolding kind
  not_implies n = none_there (as_implies F) λ x. n (tag_is x.2)

  pub not_all : (tag_of bytes f.at ≡ Some AllNamesTag → ⊥) → (tag_of bytes f.at ≡ Some AllTimesTag → ⊥) → as_all F ≡ None
  unfolding kind binder_tag
  not_all n k = none_there (as_all F) λ x. by x.0 (tag_is x.2)
    where
      by : (s : Sort) → tag_of bytes f.at ≡ Some (binder_tag s) → ⊥
      by Names e = n e
      by Times e = k e

  pub not_says : (tag_of bytes f.at ≡ Some SaysTag → ⊥) → as_says F ≡ None
  unfolding kind
  not_says n = none_there (as_says F) λ x. n (tag_is x.2)

  pub not_at : (tag_of bytes f.at ≡ Some AtTag → ⊥) → as_at F ≡ None
  unfolding kind
  not_at n = none_there (as_at F) λ x. n (tag_is x.3)

  pub not_atom : (tag_of bytes f.at ≡ Some AtomTag → ⊥) → as_atom F ≡ None
  unfolding kind
  not_atom n = none_there (as_atom F) λ x. n (tag_is x.2)

  pub not_fact : (tag_of bytes f.at ≡ Some FactTag → ⊥) → as_fact F ≡ None
  unfolding kind
  not_fact n = none_there (as_fact F) λ x. n (tag_is x.2)

  pub not_order : (tag_of bytes f.at ≡ Some OrderTag → ⊥) → as_order F ≡ None
  unfolding kind
  not_order n = none_there (as_order F) λ x. n (tag_is x.2)

  pub not_or : (tag_of bytes f.at ≡ Some OrTag → ⊥) → as_or F ≡ None
  unfolding kind
  not_or n = none_there (as_or F) λ x. n (tag_is x.2)

  pub not_falsity : (tag_of bytes f.at ≡ Some FalsityTag → ⊥) → as_falsity F ≡ None
  unfolding kind
  not_falsity n = none_there (as_falsity F) λ x. n (tag_is x)

-- A for-all with a term put in.
pub instance_means : (bytes : List ℕ) (f : FormulaAt) {F : Formula} (m : Means bytes 0 f F) (s : Sort) (shape : AllShape bytes 0 f m s) (t : Term) (more : Terms)
    → FewTerms more → more.count ≡ suc f.terms.count → terms_of more ≡ (t ∷ terms_of f.terms)
    → Means bytes 0 (record { at = f.at + 1; terms = more }) (put 0 t shape.body)
instance_means bytes f m s shape t more few count terms =
    let body = shape.part.means in
    record {
      level = body.level;
      low = body.low;
      sorts = body.sorts;
      as_many = omega (arith, body.as_many, count);
      few = few;
      tree = body.tree;
      end = body.end;
      reads = body.reads;
      filled = rw terms (sym (put_fill t (terms_of f.terms) 0 body.tree) ∙ ap (put 0 t) body.filled);
    }
