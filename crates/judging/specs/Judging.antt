-- What one step makes of a goal or of what was inferred: the parts of the walk that look at no other step.
use Rattle.std.specs.Prelude.{ℕ, ◌+◌, ◌≡◌, List, ltb, None, Option, Some}
use Rattle.procap.specs.Tells.{pick}
use Rattle.procap.specs.declared.time.Time.{Time}
use Rattle.procap.specs.declared.fact.Term.{Term}
use Rattle.bl.specs.declared.FormulaTag.{FormulaTag}
use Rattle.bl.specs.declared.FormulaTag.TheVariants.{TopTag, AndTag, ImpliesTag, AllNamesTag, AllTimesTag, SaysTag, AtTag, AtomTag, FactTag, OrderTag, OrTag, FalsityTag}
use Rattle.bl.specs.Trees.{Formula, put}
use Rattle.bl.specs.Questions.{Walk, done, misfit, ◌>>=◌, ◌>>◌, Test, ask_order, ask_fact, need}
use Rattle.bl.specs.Kinds.{as_name, as_time, as_terms, as_top, as_and, as_implies, as_all, as_says, as_at, as_fact, as_order, as_or, as_falsity}
use Rattle.bl.specs.Strength.{Pair}
use Rattle.bl.specs.Rules as rules
use Rattle.procap.specs.Lists.{nth}
use Rattle.procap.specs.declared.fact.Fact.{Fact}
use Rattle.bl.specs.Certificates.{Statement}
use Rattle.bl.specs.Rules.{Assumption, plain, claim, no_view, view_of}
use Rattle.bl.specs.Walk as walk
use Rattle.bl.specs.Walk.{same, need_cover, need_sort}
use Rattle.ledger.specs.declared.Ledger.{Ledger}
use Rattle.formula.specs.declared.parts.Judgement.{Judgement}
use Rattle.judging.specs.declared.judge.View.{View}
use Rattle.judging.specs.declared.judge.Scope.{Scope}
use Rattle.judging.specs.declared.judge.Side.{Side}
use Rattle.judging.specs.declared.judge.Side.TheVariants.{First, Second}
use Rattle.judging.specs.declared.judge.Shell.{Shell}
use Rattle.judging.specs.declared.judge.Shell.TheVariants.{AtShell, SaysShell, LeftShell, RightShell}
use Rattle.judging.specs.declared.rows.Row.{Row}
use Rattle.judging.specs.declared.judge.Inferred.{Inferred}
use Rattle.judging.specs.declared.judge.Checked.{Checked}
use Rattle.judging.specs.declared.judge.Application.{Application}
use Rattle.ledger.specs.Books.{GoesOn, Book, book, Gives, misfitted}
use Rattle.formula.specs.Meaning.{begin, On}
use Rattle.formula.specs.PartPromises.{front_on_ctime}
use Rattle.judging.specs.RowsOf.{most_rows}

-- One walk, and then another.
abbrev pub and_then : {A B : Type 0} → Walk A → (A → Walk B) → Walk B
and_then w g = w >>= g

-- In whose view a step stands, and on which interval: nobody's, or that of a principal.
unfoldable pub view_in : Option View → rules.View
view_in None = no_view
view_in (Some v) = view_of v.principal v.from v.to

-- [Rules, judgements] The scope at the start of a walk: nothing is assumed, and the view is nobody's.
abbrev pub outermost : Scope
outermost = record { count = 0; shut = 0; view = None }

-- The view of k on the interval of a judgement.
abbrev pub view_on : ℕ → Judgement → View
view_on k j = record { principal = k; from = j.from; to = j.to }

-- One assumption more; and the same where a row has room for it.
abbrev pub one_more : Scope → Scope
one_more s = record { count = s.count + 1; shut = s.shut; view = s.view }

unfoldable pub scope_with : Scope → Scope
scope_with s = pick (ltb s.count most_rows) (one_more s) s

-- The scope inside of a shell, by whose the row is that stands there, and by its judgement.
abbrev pub scope_by : Scope → Option ℕ → Judgement → Scope
scope_by scope None j = scope
scope_by scope (Some k) j = record { count = scope.count; shut = scope.count; view = Some (view_on k j) }

-- [Rules 2A] The scope inside of a shell: in a "says" the view of who says it, on the interval that is checked, with the plain assumptions from outside shut out.
abbrev pub scope_inside : Scope → Row → Scope
scope_inside scope row = scope_by scope row.whose row.judgement

-- 20 and 21: an assumption, a certificate.
unfoldable pub use_local : List Pair → ℕ → rules.View → List Assumption → ℕ → Walk walk.Judgement
use_local ps q v Γ i = do
  x ← need q (nth Γ i)
  walk.assumed ps q v x

unfoldable pub use_certificate : List Pair → ℕ → rules.View → List Statement → ℕ → Walk walk.Judgement
use_certificate ps q v cs i = do
  c ← need q (nth cs i)
  walk.need_view ps q v c.by c.from c.to
  done (c.says, c.from, c.to)

-- The part of a judgement that begins at another place, on the same interval.
abbrev pub part_of : Judgement → ℕ → Judgement
part_of j at = record { formula = begin j.formula at; from = j.from; to = j.to }

-- The side of a formula that begins at a place, as a plain assumption on an interval.
abbrev pub plain_side : Judgement → ℕ → Time → Time → Row
plain_side j at from to = record { whose = None; judgement = record { formula = begin j.formula at; from = from; to = to } }

-- Nothing is inferred: beside the ledger stand the front of the bytes on [ctime,ctime] and the place 0, which say nothing.
abbrev pub nothing_inferred : Ledger → Inferred
nothing_inferred l = record { ledger = l; judgement = front_on_ctime; next = 0 }

-- Both sides of a conjunction, of an implication, of an "or".
unfoldable pub and_sides : ℕ → Formula → Walk (Formula × Formula)
and_sides q F = do
  (A, B, _) ← need q (as_and F)
  done (A, B)

unfoldable pub implies_sides : ℕ → Formula → Walk (Formula × Formula)
implies_sides q F = do
  (A, B, _) ← need q (as_implies F)
  done (A, B)

unfoldable pub or_sides : ℕ → Formula → Walk (Formula × Formula)
or_sides q F = do
  (A, B, _) ← need q (as_or F)
  done (A, B)

-- The same by the tag wanted; no other has two sides.
unfoldable pub sides : FormulaTag → ℕ → Formula → Walk (Formula × Formula)
sides AndTag q F = and_sides q F
sides ImpliesTag q F = implies_sides q F
sides OrTag q F = or_sides q F
sides TopTag q F = misfit q
sides AllNamesTag q F = misfit q
sides AllTimesTag q F = misfit q
sides SaysTag q F = misfit q
sides AtTag q F = misfit q
sides AtomTag q F = misfit q
sides FactTag q F = misfit q
sides OrderTag q F = misfit q
sides FalsityTag q F = misfit q

-- The tags of formulas with two sides.
unfoldable pub TwoSided : FormulaTag → Type 0
TwoSided TopTag = ⊥
TwoSided AndTag = Unit {0}
TwoSided ImpliesTag = Unit {0}
TwoSided AllNamesTag = ⊥
TwoSided AllTimesTag = ⊥
TwoSided SaysTag = ⊥
TwoSided AtTag = ⊥
TwoSided AtomTag = ⊥
TwoSided FactTag = ⊥
TwoSided OrderTag = ⊥
TwoSided OrTag = Unit {0}
TwoSided FalsityTag = ⊥

-- The formula of an "at" and its interval.
unfoldable pub at_parts : ℕ → Formula → Walk (Formula × Time × Time)
at_parts q F = do
  (x1, x2, A, _) ← need q (as_at F)
  (t1, _) ← need q (as_time x1)
  (t2, _) ← need q (as_time x2)
  done (A, t1, t2)

-- Who says, and what.
unfoldable pub says_parts : ℕ → Formula → Walk (ℕ × Formula)
says_parts q F = do
  (x, A, _) ← need q (as_says F)
  (k, _) ← need q (as_name x)
  done (k, A)

-- [Rules 28, 29, 2A, 2B, 2E, 2F] What stands inside of a shell, as an assumption: a plain one on the interval of the "at", a claim of who says it on the same interval, a side of an "or" as a plain one on the same interval.
unfoldable pub inside : Shell → ℕ → walk.Judgement → Walk Assumption
inside AtShell q (F, a, b) = do
  (A, t1, t2) ← at_parts q F
  done (plain A t1 t2)
inside SaysShell q (F, a, b) = do
  (k, A) ← says_parts q F
  done (claim k A a b)
inside LeftShell q (F, a, b) = do
  (A, B) ← or_sides q F
  done (plain A a b)
inside RightShell q (F, a, b) = do
  (A, B) ← or_sides q F
  done (plain B a b)

-- [Rules 30] Both sides of an "or", each as a plain assumption on its interval.
unfoldable pub branches : ℕ → walk.Judgement → Walk (Assumption × Assumption)
branches q (F, a, b) = do
  (A, B) ← or_sides q F
  done (plain A a b, plain B a b)

-- [Rules 31] Falsity is what was inferred.
unfoldable pub falsity_inferred : ℕ → walk.Judgement → Test
falsity_inferred q (F, a, b) = do
  _ ← need q (as_falsity F)
  done tt

-- 25, 2C and 2D on their goal.
unfoldable pub top_goal : ℕ → Formula → Test
top_goal q G = do
  _ ← need q (as_top G)
  done tt

unfoldable pub fact_goal : ℕ → Formula → Test
fact_goal q G = do
  (p, xs, _) ← need q (as_fact G)
  (ts, _) ← need q (as_terms xs)
  ask_fact q (p, ts)

unfoldable pub order_goal : ℕ → Formula → Test
order_goal q G = do
  (x1, x2, _) ← need q (as_order G)
  (t1, _) ← need q (as_time x1)
  (t2, _) ← need q (as_time x2)
  ask_order q t1 t2

-- 23, 24 and 27 on what was inferred.
unfoldable pub first_side : ℕ → walk.Judgement → Walk walk.Judgement
first_side q (F, a, b) = do
  (A, B) ← and_sides q F
  done (A, a, b)

unfoldable pub second_side : ℕ → walk.Judgement → Walk walk.Judgement
second_side q (F, a, b) = do
  (A, B) ← and_sides q F
  done (B, a, b)

abbrev pub side_of : Side → ℕ → walk.Judgement → Walk walk.Judgement
side_of First q j = first_side q j
side_of Second q j = second_side q j

unfoldable pub put_in : ℕ → Term → walk.Judgement → Walk walk.Judgement
put_in q t (F, a, b) = do
  (s, A, _) ← need q (as_all F)
  need_sort q s t
  done (put 0 t A, a, b)

-- An inferring step where one is checked.
unfoldable pub fits_goal : ℕ → Formula → Time → Time → Formula → Time → Time → Test
fits_goal q F a b G c d = do
  same q F G
  need_cover q a b c d

-- A step takes a value that is so, and the ledger stays; or it does not fit, and the ledger stops there.
pub data Takes {X : Type 0} (w : Walk X) (q : ℕ) (l r : Ledger) (So : X → Type 0) : Type 0 where
  takes : (x : X) → w ≡ done x → r ≡ l → So x → Takes w q l r So
  unfit : w ≡ misfit q → r ≡ misfitted l q → Takes w q l r So

-- The walk w, from the book b, came to a judgement whose step ends at e; where it stopped the rest says nothing.
pub record Yields (state buffer : List ℕ) (b : Book) (w : Walk walk.Judgement) (e : ℕ) (r : Inferred) (list : List Fact) : Type 0 where
  pub formula : Formula
  pub from : Time
  pub to : Time
  pub gives : Gives state b w (book r.ledger list) (formula, from, to)
  pub on : GoesOn r.ledger → On buffer r.judgement formula from to
  pub ends : GoesOn r.ledger → r.next ≡ e

-- The walk w, from the book b, was passed or stopped, and its step ends at e.
pub record Passes (state : List ℕ) (b : Book) (w : Test) (e : ℕ) (r : Checked) (list : List Fact) : Type 0 where
  pub gives : Gives state b w (book r.ledger list) tt
  pub ends : GoesOn r.ledger → r.next ≡ e

-- 26, before its second step: an implication put to use on [t1,t2], or nothing of the kind.
pub data Used (state buffer : List ℕ) (q : ℕ) (list : List Fact) (l : Ledger) (F : Formula) (a b t1 t2 : Time) (middle next : ℕ) (r : Application) : Type 0 where
  used : (A B : Formula) → implies_sides q F ≡ done (A, B)
      → Gives state (book l list) (need_cover q a b t1 t2) (book r.ledger list) tt
      → On buffer r.premise A t1 t2 → On buffer (part_of r.premise r.conclusion) B t1 t2 → r.middle ≡ middle → r.next ≡ next
      → Used state buffer q list l F a b t1 t2 middle next r
  unused : implies_sides q F ≡ misfit q → Gives state (book l list) (misfit q) (book r.ledger list) (tt {0}) → Used state buffer q list l F a b t1 t2 middle next r
