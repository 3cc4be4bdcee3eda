-- What is seen of a formula in bytes from its tag: where its parts stand, and what they mean.
-- Each law goes along the reader by that tag, line by line, and puts the terms into what was read.
use Prim.Native.Nat.{ℕ, suc, ◌+◌, ◌≤◌, ◌<◌}
use mathlib.Core.Path.{◌≡◌, refl, sym, ◌∙◌}
use mathlib.Core.List.{List, ◌∷◌, map}
use Rattle.std.proofs.lemmas.Option.{same_Some}
use Rattle.std.specs.Prelude.{Option, Some}
use native.Mathlib.Omega.{arith}
use borrow.Author.Tests.{leb-true, ltb-true}
use lib.ListN.{length}
use Rattle.procap.specs.Facts.{most_terms}
use Rattle.procap.specs.Bytes.{◌>>=◌, give, number, byte, many, predicate_and}
use Rattle.bl.specs.declared.FormulaTag.{FormulaTag}
use Rattle.bl.specs.declared.FormulaTag.TheVariants.{TopTag, AndTag, ImpliesTag, AllNamesTag, AllTimesTag, SaysTag, AtTag, AtomTag, FactTag, OrderTag, OrTag, FalsityTag}
use Rattle.bl.specs.declared.Sort.{Sort}
use Rattle.bl.specs.declared.Sort.TheVariants.{Names, Times}
use Rattle.bl.specs.Trees.{Place, Formula, top, and, implies, all, says, at, atom, fact, order, or, falsity}
use Rattle.bl.specs.Formulas.{most_binders, argument, for_all, formula_by, formula}
use Rattle.formula.specs.declared.parts.FormulaAt.{FormulaAt}
use Rattle.formula.specs.PutIn.{terms_of, fill_place, fill}
use Rattle.formula.specs.Meaning.{tag_of, begin, Means}
use Rattle.procap.proofs.Readers.{IfRead, read, so_read, then_read, ensure_read, any_read, many_read}
use Rattle.procap.proofs.ReadApart.{as_read}
use Rattle.formula.proofs.FormulasRead.{place_read, ReadByTag, read_by_tag}

-- The tag of a binder of this sort.
unfoldable pub binder_tag : Sort → FormulaTag
binder_tag Names = AllNamesTag
binder_tag Times = AllTimesTag

module _ (bytes : List ℕ) (d : ℕ) (f : FormulaAt) where
  -- What stands at a place where a term may, up to the place e.
  pub record Stands (sorts : List Sort) (place : ℕ) (x : Place) (e : ℕ) : Type 0 where
    pub written : Place
    pub reads : argument bytes sorts place ≡ Some (written, e)
    pub filled : fill_place d (terms_of f.terms) written ≡ x

  -- The terms put into what was read.
  abbrev put_in : Formula → Formula
  put_in A = fill d (terms_of f.terms) A

  abbrev put_in_place : Place → Place
  put_in_place x = fill_place d (terms_of f.terms) x

  -- What an argument reads stands there with the terms put in.
  stands : {sorts : List Sort} {place : ℕ} {x : Place} {e : ℕ} → argument bytes sorts place ≡ Some (x, e) → Stands sorts place (put_in_place x) e
  stands {x = x} r = record { written = x; reads = r; filled = refl }

  module _ {F : Formula} (m : Means bytes d f F) where
    -- A part of the formula, one level lower, at a place.
    pub record Part (d' place : ℕ) (A : Formula) : Type 0 where
      pub means : Means bytes d' (begin f place) A
      pub lower : suc means.level ≤ m.level

    -- From the formula read, with the terms put in, and the place where it ends, X follows.
    abbrev Leads : Type 0 → Option (Formula × ℕ) → Type 0
    Leads X o = IfRead (λ tree e. F ≡ put_in tree → e ≡ m.end → X) o

    -- The formula is read by its tag.
    by_its_tag : ReadByTag bytes m.sorts f.at m.level (m.tree, m.end)
    by_its_tag = read_by_tag bytes m.sorts f.at m.level _ m.reads

    -- What follows from whatever the reader by the tag finds, over the readers of n levels, follows.
    by_tag : {X : Type 0} (tag : FormulaTag) → tag_of bytes f.at ≡ Some tag
        → ((n : ℕ) → m.level ≡ suc n → Leads X (formula_by bytes (λ around. formula bytes n around) m.sorts tag (f.at + 1))) → X
    by_tag tag e h =
        let r = by_its_tag in
        let same = same_Some r.tag tag (sym r.tagged ∙ e) in
        so_read _ (rw same at r.reads) (h r.below r.lower) (sym m.filled) refl

    -- What is read one level lower is a part: under d' binders of these sorts, or under the same as the formula itself.
    part_under : (d' : ℕ) (sorts : List Sort) → length sorts ≡ d' + f.terms.count → (n : ℕ) → m.level ≡ suc n
        → (A : Formula) (start e : ℕ) → formula bytes n sorts start ≡ Some (A, e) → Part d' start (fill d' (terms_of f.terms) A)
    part_under d' sorts s n l A start e r = record {
      means = record {
        level = n;
        low = omega (arith, l, m.low);
        sorts = sorts;
        as_many = s;
        few = m.few;
        tree = A;
        end = e;
        reads = r;
        filled = refl;
      };
      lower = omega (arith, l);
    }

    abbrev part_here : (n : ℕ) → m.level ≡ suc n → (A : Formula) (start e : ℕ) → formula bytes n m.sorts start ≡ Some (A, e) → Part d start (put_in A)
    part_here = part_under d m.sorts m.as_many

    -- The tag stands inside of the bytes.
    pub inside : f.at < length bytes
    inside = by_its_tag.inside

    -- There is a tag.
    pub its_tag : FormulaTag
    its_tag = by_its_tag.tag

    pub tagged : tag_of bytes f.at ≡ Some its_tag
    unfolding its_tag
    tagged = by_its_tag.tagged

    -- A formula without parts.
    pub record LeafShape (leaf : Formula) : Type 0 where
      pub is : F ≡ leaf
      pub ends : f.at + 1 ≡ m.end

    pub top_shape : tag_of bytes f.at ≡ Some TopTag → LeafShape top
    unfolding formula_by fill
    top_shape e = by_tag TopTag e λ n l. read λ is ends. record { is = is; ends = ends }

    pub falsity_shape : tag_of bytes f.at ≡ Some FalsityTag → LeafShape falsity
    unfolding formula_by fill
    falsity_shape e = by_tag FalsityTag e λ n l. read λ is ends. record { is = is; ends = ends }

    pub record TwoParts (A B : Formula) : Type 0 where
      pub first : Part d (f.at + 1) A
      pub second : Part d first.means.end B
      pub ends : second.means.end ≡ m.end

    -- A formula made of two.
    two_parts : {X : Type 0} (make : Formula → Formula → Formula)
        → ((A B : Formula) → F ≡ put_in (make A B) → TwoParts (put_in A) (put_in B) → X) → (n : ℕ) → m.level ≡ suc n
        → Leads X ((do A ← formula bytes n m.sorts; B ← formula bytes n m.sorts; give (make A B)) (f.at + 1))
    unfolding part_under
    two_parts make h n l =
        then_read (as_read _) λ A i a.
        then_read (as_read _) λ B e b.
        read λ is ends. h A B is (record { first = part_here n l A _ i a; second = part_here n l B _ e b; ends = ends })

    pub record SidesShape (make : Formula → Formula → Formula) : Type 0 where
      pub left : Formula
      pub right : Formula
      pub is : F ≡ make left right
      pub parts : TwoParts left right

    pub and_shape : tag_of bytes f.at ≡ Some AndTag → SidesShape and
    unfolding formula_by fill
    and_shape e = by_tag AndTag e (two_parts and λ A B is parts. record { left = put_in A; right = put_in B; is = is; parts = parts })

    pub implies_shape : tag_of bytes f.at ≡ Some ImpliesTag → SidesShape implies
    unfolding formula_by fill
    implies_shape e = by_tag ImpliesTag e (two_parts implies λ A B is parts. record { left = put_in A; right = put_in B; is = is; parts = parts })

    pub or_shape : tag_of bytes f.at ≡ Some OrTag → SidesShape or
    unfolding formula_by fill
    or_shape e = by_tag OrTag e (two_parts or λ A B is parts. record { left = put_in A; right = put_in B; is = is; parts = parts })

    pub record AllShape (s : Sort) : Type 0 where
      pub body : Formula
      pub is : F ≡ all s body
      pub room : d + f.terms.count < most_binders
      pub part : Part (suc d) (f.at + 1) body
      pub ends : part.means.end ≡ m.end

    -- A binder and the formula under it.
    under_binder : (s : Sort) (n : ℕ) → m.level ≡ suc n
        → Leads (AllShape s) (for_all bytes (λ around. formula bytes n around) m.sorts s (f.at + 1))
    unfolding for_all fill part_under
    under_binder s n l =
        ensure_read _ _ _ λ fits.
        then_read (as_read _) λ A e a.
        read λ is ends. record {
          body = fill (suc d) (terms_of f.terms) A;
          is = is;
          room = omega (arith, m.as_many, ltb-true (length m.sorts) most_binders fits);
          part = part_under (suc d) (s ∷ m.sorts) (omega (arith, m.as_many)) n l A _ e a;
          ends = ends;
        }

    pub all_shape : (s : Sort) → tag_of bytes f.at ≡ Some (binder_tag s) → AllShape s
    unfolding formula_by binder_tag
    all_shape Names e = by_tag AllNamesTag e (under_binder Names)
    all_shape Times e = by_tag AllTimesTag e (under_binder Times)

    pub record SaysShape : Type 0 where
      pub who : Place
      pub said : Formula
      pub is : F ≡ says who said
      pub after : ℕ
      pub named : Stands m.sorts (f.at + 1) who after
      pub part : Part d after said
      pub ends : part.means.end ≡ m.end

    pub says_shape : tag_of bytes f.at ≡ Some SaysTag → SaysShape
    unfolding formula_by fill part_under
    says_shape e = by_tag SaysTag e λ n l.
        then_read (place_read bytes m.sorts _ Names) λ k i x.
        then_read (as_read _) λ A j a.
        read λ is ends. record {
          who = put_in_place k;
          said = put_in A;
          is = is;
          after = i;
          named = stands x;
          part = part_here n l A i j a;
          ends = ends;
        }

    pub record AtShape : Type 0 where
      pub from : Place
      pub to : Place
      pub body : Formula
      pub is : F ≡ at from to body
      pub middle : ℕ
      pub after : ℕ
      pub first : Stands m.sorts (f.at + 1) from middle
      pub second : Stands m.sorts middle to after
      pub part : Part d after body
      pub ends : part.means.end ≡ m.end

    pub at_shape : tag_of bytes f.at ≡ Some AtTag → AtShape
    unfolding formula_by fill part_under
    at_shape e = by_tag AtTag e λ n l.
        then_read (place_read bytes m.sorts _ Times) λ t i x.
        then_read (place_read bytes m.sorts _ Times) λ u j y.
        then_read (as_read _) λ A k a.
        read λ is ends. record {
          from = put_in_place t;
          to = put_in_place u;
          body = put_in A;
          is = is;
          middle = i;
          after = j;
          first = stands x;
          second = stands y;
          part = part_here n l A j k a;
          ends = ends;
        }

    -- A predicate, a count, and so many places.
    pub record Headed (p : ℕ) (xs : List Place) : Type 0 where
      pub after_predicate : ℕ
      pub count : ℕ
      pub after_count : ℕ
      pub written : List Place
      pub predicate_reads : number bytes 2 (f.at + 1) ≡ Some (p, after_predicate)
      pub count_reads : byte bytes after_predicate ≡ Some (count, after_count)
      pub few : count ≤ most_terms
      pub places_read : many (argument bytes m.sorts) count after_count ≡ Some (written, m.end)
      pub as_many : length written ≡ count
      pub filled : map (fill_place d (terms_of f.terms)) written ≡ xs

    -- The reader of a predicate and its places finds those.
    head_read : IfRead (λ head e. e ≡ m.end → Headed head.0 (map put_in_place head.1))
        (predicate_and bytes (argument bytes m.sorts) (f.at + 1))
    unfolding predicate_and
    head_read =
        then_read (as_read _) λ p i a.
        then_read (as_read _) λ n j b.
        ensure_read _ _ _ λ fits.
        then_read (as_read _) λ xs e r.
        read λ ends. record {
          after_predicate = i;
          count = n;
          after_count = j;
          written = xs;
          predicate_reads = a;
          count_reads = b;
          few = leb-true n most_terms fits;
          places_read = rw (← ends) r;
          as_many = (so_read _ r (many_read (λ start. any_read (argument bytes m.sorts start)) n j)).0;
          filled = refl;
        }

    pub record AtomShape : Type 0 where
      pub predicate : ℕ
      pub places : List Place
      pub is : F ≡ atom predicate places
      pub headed : Headed predicate places

    pub atom_shape : tag_of bytes f.at ≡ Some AtomTag → AtomShape
    unfolding formula_by fill
    atom_shape e = by_tag AtomTag e λ n l.
        then_read head_read λ (p, xs) i h. read λ is ends. record { predicate = p; places = map put_in_place xs; is = is; headed = h ends }

    pub record FactShape : Type 0 where
      pub predicate : ℕ
      pub places : List Place
      pub is : F ≡ fact predicate places
      pub headed : Headed predicate places

    pub fact_shape : tag_of bytes f.at ≡ Some FactTag → FactShape
    unfolding formula_by fill
    fact_shape e = by_tag FactTag e λ n l.
        then_read head_read λ (p, xs) i h. read λ is ends. record { predicate = p; places = map put_in_place xs; is = is; headed = h ends }

    pub record OrderShape : Type 0 where
      pub left : Place
      pub right : Place
      pub is : F ≡ order left right
      pub middle : ℕ
      pub first : Stands m.sorts (f.at + 1) left middle
      pub second : Stands m.sorts middle right m.end

    pub order_shape : tag_of bytes f.at ≡ Some OrderTag → OrderShape
    unfolding formula_by fill
    order_shape e = by_tag OrderTag e λ n l.
        then_read (place_read bytes m.sorts _ Times) λ t i x.
        then_read (place_read bytes m.sorts _ Times) λ u j y.
        read λ is ends. record {
          left = put_in_place t;
          right = put_in_place u;
          is = is;
          middle = i;
          first = stands x;
          second = rw (← ends) (stands y);
        }
