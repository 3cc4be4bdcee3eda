-- Formulas of one tag are compared part by part, in the order in which the walk over the trees takes them.
use Prim.Native.Nat.{ℕ, suc, ◌+◌, ◌≤◌, ◌<◌}
use mathlib.Core.Path.{◌≡◌, refl, sym, ap, ap₂, ◌∙◌}
use mathlib.Core.List.{List}
use mathlib.Core.Logic.{◌⊎◌, inl, inr}
use Rattle.std.specs.Prelude.{Some}
use native.Mathlib.Omega.{arith}
use lib.ListN.{length}
use Rattle.bl.specs.declared.FormulaTag.{FormulaTag}
use Rattle.bl.specs.declared.FormulaTag.TheVariants.{TopTag, AndTag, ImpliesTag, AllNamesTag, AllTimesTag, SaysTag, AtTag, AtomTag, FactTag, OrderTag, OrTag, FalsityTag}
use Rattle.bl.specs.declared.Sort.{Sort}
use Rattle.bl.specs.declared.Sort.TheVariants.{Names, Times}
use Rattle.bl.specs.Trees.{Place, Formula, and, implies, all, or}
use Rattle.bl.specs.Questions.{done, ◌>>=◌, ◌>>◌, Test, need, need_equal}
use Rattle.bl.specs.Kinds.{as_top, as_and, as_implies, as_all, as_says, as_at, as_atom, as_fact, as_order, as_or, as_falsity}
use Rattle.bl.specs.Walk.{same_place, same_places, same_sort, same}
use Rattle.ledger.specs.declared.Ledger.{Ledger}
use Rattle.formula.specs.declared.parts.FormulaAt.{FormulaAt}
use Rattle.formula.specs.declared.compare.Compared.{Compared}
use Rattle.formula.specs.Meaning.{begin, Means}
use Rattle.formula.specs.Comparing.{Two, LeadsTo, move, PlacesStand, HeadStands, ComparesPlaces, ComparesHeads, ComparesPair, ComparesBody, ComparesAfter, ComparesTagged}
use Rattle.formula.proofs.Shapes as shapes
use Rattle.formula.proofs.Comparing.{test_row, leads_as, agrees}
use Rattle.formula.proofs.ComparingPlaces.{one_stands, two_stand, one_place, two_places}

-- The head that a formula's shape has.
headed : (bytes : List ℕ) (d : ℕ) (f : FormulaAt) {F : Formula} (m : Means bytes d f F) {p : ℕ} {xs : List Place} → shapes.Headed bytes d f m p xs
    → HeadStands bytes d (begin f (f.at + 1)) p xs m.end
headed bytes d f m x = record {
  after_predicate = x.after_predicate;
  count = x.count;
  after_count = x.after_count;
  predicate_reads = x.predicate_reads;
  count_reads = x.count_reads;
  places = record { few = m.few; sorts = m.sorts; written = x.written; reads = x.places_read; filled = x.filled };
}

-- A for-all and another of its sort.
same_binder : (q : ℕ) (s : Sort) (A A' : Formula) → same q (all s A) (all s A') ≡ same q A A'
unfolding same need as_all same_sort ◌>>=◌
same_binder q Names A A' = refl
same_binder q Times A A' = refl

-- A pair of formulas of one tag, and the pair of the places after their tags.
module _ (left_bytes right_bytes : List ℕ) (pair parts : Two) (l : Ledger) (levels : ℕ) (tag : FormulaTag) (r : Compared)
    (moved : pair.left.at < length left_bytes → pair.right.at < length right_bytes → parts ≡ move pair (pair.left.at + 1) (pair.right.at + 1)) where
  abbrev d : ℕ
  d = pair.under

  abbrev q : ℕ
  q = pair.offset

  abbrev left : FormulaAt
  left = pair.left

  abbrev right : FormulaAt
  right = pair.right

  -- What the call promises that has them compared, and what the call after a first part promises.
  abbrev Tagged : Type 0
  Tagged = ComparesTagged left_bytes right_bytes tag pair l levels r

  abbrev After : Compared → Type 0
  After one = ComparesAfter left_bytes right_bytes one pair levels r

  -- ── Parts ──

  module _ {F G : Formula} (m : Means left_bytes d left F) (n : Means right_bytes d right G) (low : m.level ≤ suc levels) where
    at_parts : parts ≡ move pair (left.at + 1) (right.at + 1)
    at_parts = moved (shapes.inside left_bytes d left m) (shapes.inside right_bytes d right n)

    -- The walk over the formulas that F and G are seen to be.
    seen : {F' G' : Formula} (w : Test) {e e' : ℕ} → F ≡ F' → G ≡ G' → same q F' G' ≡ w → e ≡ m.end → e' ≡ n.end → LeadsTo l w r e e'
        → LeadsTo l (same q F G) r m.end n.end
    seen w {e} {e'} is is' walk ends ends' h = leads_as l (same q F G) w r e m.end e' n.end (ap₂ (same q) is is' ∙ walk) ends ends' h

    -- Two parts, one after the other.
    two_parts : {A B A' B' : Formula} → shapes.TwoParts left_bytes d left m A B → shapes.TwoParts right_bytes d right n A' B' → (one : Compared)
        → ComparesPair left_bytes right_bytes parts l levels one → After one → LeadsTo l (same q A A' >> same q B B') r m.end n.end
    two_parts {A} {B} {A'} {B'} x y one first second =
        let a = x.first.means in
        let b = y.first.means in
        let firsts = (rw at_parts at first) A A' a b (omega (arith, x.first.lower)) in
        let both = second l (same q A A') a.end b.end B B' x.second.means y.second.means (omega (arith, x.second.lower)) firsts in
        leads_as l _ _ r x.second.means.end m.end y.second.means.end n.end refl x.ends y.ends both

    -- Places, and then a part.
    part_after : {count : ℕ} {xs ys : List Place} {e e' : ℕ} {A A' : Formula} (w : Test) → same_places q xs ys ≡ w
        → PlacesStand left_bytes d count (begin left (left.at + 1)) xs e → PlacesStand right_bytes d count (begin right (right.at + 1)) ys e'
        → (x : shapes.Part left_bytes d left m d e A) (y : shapes.Part right_bytes d right n d e' A') (one : Compared)
        → ComparesPlaces left_bytes right_bytes count parts l one → After one → LeadsTo l (w >> same q A A') r x.means.end y.means.end
    part_after {xs = xs} {ys} {e} {e'} {A} {A'} w is h h' x y one first second =
        let places = leads_as l w _ one e e e' e' (sym is) refl refl ((rw at_parts at first) xs ys e e' h h') in
        second l w e e' A A' x.means y.means (omega (arith, x.lower)) places

    -- A predicate and its places.
    heads : {p p' : ℕ} {xs ys : List Place} → shapes.Headed left_bytes d left m p xs → shapes.Headed right_bytes d right n p' ys
        → ComparesHeads left_bytes right_bytes parts l r
        → LeadsTo l (need_equal q p p' >> (need_equal q (length xs) (length ys) >> same_places q xs ys)) r m.end n.end
    heads {p} {p'} {xs} {ys} x y h =
        (rw at_parts at h) p p' xs ys m.end n.end (headed left_bytes d left m x) (headed right_bytes d right n y)

  -- ── Kinds ──

  -- Two formulas without parts.
  leaves_same : (leaf : Formula) → same q leaf leaf ≡ done tt → r ≡ record { ledger = l; left_next = parts.left.at; right_next = parts.right.at }
      → {F G : Formula} (m : Means left_bytes d left F) (n : Means right_bytes d right G) → m.level ≤ suc levels
      → shapes.LeafShape left_bytes d left m leaf → shapes.LeafShape right_bytes d right n leaf → LeadsTo l (same q F G) r m.end n.end
  leaves_same leaf walk is m n low x y =
      seen m n low (done tt) x.is y.is walk
      (ap (λ z. z.left_next) is ∙ ap (λ z. z.left.at) (at_parts m n low) ∙ x.ends)
      (ap (λ z. z.right_next) is ∙ ap (λ z. z.right.at) (at_parts m n low) ∙ y.ends)
      (agrees l r (ap (λ z. z.ledger) is))

  top_same : tag ≡ TopTag → r ≡ record { ledger = l; left_next = parts.left.at; right_next = parts.right.at } → Tagged
  unfolding same need as_top ◌>>=◌
  top_same told is t t' F G m n low =
      leaves_same _ refl is m n low (shapes.top_shape left_bytes d left m (t ∙ ap Some told)) (shapes.top_shape right_bytes d right n (t' ∙ ap Some told))

  falsity_same : tag ≡ FalsityTag → r ≡ record { ledger = l; left_next = parts.left.at; right_next = parts.right.at } → Tagged
  unfolding same need as_falsity ◌>>=◌
  falsity_same told is t t' F G m n low =
      leaves_same _ refl is m n low (shapes.falsity_shape left_bytes d left m (t ∙ ap Some told)) (shapes.falsity_shape right_bytes d right n (t' ∙ ap Some told))

  pub leaf_same : (tag ≡ TopTag) ⊎ (tag ≡ FalsityTag) → r ≡ record { ledger = l; left_next = parts.left.at; right_next = parts.right.at } → Tagged
  leaf_same (inl told) = top_same told
  leaf_same (inr told) = falsity_same told

  -- Two formulas made of two.
  sides_same : (make : Formula → Formula → Formula) → ((A B A' B' : Formula) → same q (make A B) (make A' B') ≡ (same q A A' >> same q B B'))
      → (one : Compared) → ComparesPair left_bytes right_bytes parts l levels one → After one
      → {F G : Formula} (m : Means left_bytes d left F) (n : Means right_bytes d right G) → m.level ≤ suc levels
      → shapes.SidesShape left_bytes d left m make → shapes.SidesShape right_bytes d right n make → LeadsTo l (same q F G) r m.end n.end
  sides_same make walk one first second m n low x y =
      seen m n low _ x.is y.is (walk x.left x.right y.left y.right) refl refl (two_parts m n low x.parts y.parts one first second)

  and_same : tag ≡ AndTag → (one : Compared) → ComparesPair left_bytes right_bytes parts l levels one → After one → Tagged
  unfolding same need as_and ◌>>=◌
  and_same told one first second t t' F G m n low =
      sides_same and (λ A B A' B'. refl) one first second m n low (shapes.and_shape left_bytes d left m (t ∙ ap Some told)) (shapes.and_shape right_bytes d right n (t' ∙ ap Some told))

  implies_same : tag ≡ ImpliesTag → (one : Compared) → ComparesPair left_bytes right_bytes parts l levels one → After one → Tagged
  unfolding same need as_implies ◌>>=◌
  implies_same told one first second t t' F G m n low =
      sides_same implies (λ A B A' B'. refl) one first second m n low (shapes.implies_shape left_bytes d left m (t ∙ ap Some told)) (shapes.implies_shape right_bytes d right n (t' ∙ ap Some told))

  or_same : tag ≡ OrTag → (one : Compared) → ComparesPair left_bytes right_bytes parts l levels one → After one → Tagged
  unfolding same need as_or ◌>>=◌
  or_same told one first second t t' F G m n low =
      sides_same or (λ A B A' B'. refl) one first second m n low (shapes.or_shape left_bytes d left m (t ∙ ap Some told)) (shapes.or_shape right_bytes d right n (t' ∙ ap Some told))

  pub two_sided_same : (tag ≡ AndTag) ⊎ ((tag ≡ ImpliesTag) ⊎ (tag ≡ OrTag)) → (one : Compared) → ComparesPair left_bytes right_bytes parts l levels one → After one → Tagged
  two_sided_same (inl told) = and_same told
  two_sided_same (inr (inl told)) = implies_same told
  two_sided_same (inr (inr told)) = or_same told

  all_same : (s : Sort) → tag ≡ shapes.binder_tag s → ComparesBody left_bytes right_bytes parts l levels r → Tagged
  all_same s told h t t' F G m n low =
      let x = shapes.all_shape left_bytes d left m s (t ∙ ap Some told) in
      let y = shapes.all_shape right_bytes d right n s (t' ∙ ap Some told) in
      let bodies = (rw (at_parts m n low) at h) (omega (arith, x.room)) x.body y.body x.part.means y.part.means (omega (arith, x.part.lower)) in
      seen m n low _ x.is y.is (same_binder q s x.body y.body) x.ends y.ends bodies

  pub under_same : (tag ≡ AllNamesTag) ⊎ (tag ≡ AllTimesTag) → ComparesBody left_bytes right_bytes parts l levels r → Tagged
  unfolding shapes.binder_tag
  under_same (inl told) = all_same Names told
  under_same (inr told) = all_same Times told

  pub says_same : tag ≡ SaysTag → (one : Compared) → ComparesPlaces left_bytes right_bytes 1 parts l one → After one → Tagged
  unfolding same need as_says ◌>>=◌
  says_same told one first second t t' F G m n low =
      let x = shapes.says_shape left_bytes d left m (t ∙ ap Some told) in
      let y = shapes.says_shape right_bytes d right n (t' ∙ ap Some told) in
      let who = one_stands left_bytes d left m.few x.named in
      let who' = one_stands right_bytes d right n.few y.named in
      seen m n low _ x.is y.is refl x.ends y.ends
      (part_after m n low _ (one_place q x.who y.who) who who' x.part y.part one first second)

  pub at_same : tag ≡ AtTag → (one : Compared) → ComparesPlaces left_bytes right_bytes 2 parts l one → After one → Tagged
  unfolding same need as_at ◌>>=◌
  at_same told one first second t t' F G m n low =
      let x = shapes.at_shape left_bytes d left m (t ∙ ap Some told) in
      let y = shapes.at_shape right_bytes d right n (t' ∙ ap Some told) in
      let interval = two_stand left_bytes d left m.few x.first x.second in
      let interval' = two_stand right_bytes d right n.few y.first y.second in
      let row = test_row (same_place q x.from y.from) (same_place q x.to y.to) (same q x.body y.body) in
      seen m n low _ x.is y.is (sym row) x.ends y.ends
      (part_after m n low _ (two_places q x.from x.to y.from y.to) interval interval' x.part y.part one first second)

  atom_same : tag ≡ AtomTag → ComparesHeads left_bytes right_bytes parts l r → Tagged
  unfolding same need as_atom ◌>>=◌
  atom_same told h t t' F G m n low =
      let x = shapes.atom_shape left_bytes d left m (t ∙ ap Some told) in
      let y = shapes.atom_shape right_bytes d right n (t' ∙ ap Some told) in
      seen m n low _ x.is y.is refl refl refl (heads m n low x.headed y.headed h)

  fact_same : tag ≡ FactTag → ComparesHeads left_bytes right_bytes parts l r → Tagged
  unfolding same need as_fact ◌>>=◌
  fact_same told h t t' F G m n low =
      let x = shapes.fact_shape left_bytes d left m (t ∙ ap Some told) in
      let y = shapes.fact_shape right_bytes d right n (t' ∙ ap Some told) in
      seen m n low _ x.is y.is refl refl refl (heads m n low x.headed y.headed h)

  pub headed_same : (tag ≡ AtomTag) ⊎ (tag ≡ FactTag) → ComparesHeads left_bytes right_bytes parts l r → Tagged
  headed_same (inl told) = atom_same told
  headed_same (inr told) = fact_same told

  pub order_same : tag ≡ OrderTag → ComparesPlaces left_bytes right_bytes 2 parts l r → Tagged
  unfolding same need as_order ◌>>=◌
  order_same told h t t' F G m n low =
      let x = shapes.order_shape left_bytes d left m (t ∙ ap Some told) in
      let y = shapes.order_shape right_bytes d right n (t' ∙ ap Some told) in
      let times_stand = two_stand left_bytes d left m.few x.first x.second in
      let times_stand' = two_stand right_bytes d right n.few y.first y.second in
      seen m n low _ x.is y.is (sym (two_places q x.left x.right y.left y.right)) refl refl
      ((rw (at_parts m n low) at h) _ _ m.end n.end times_stand times_stand')
