-- What the function of each single step promises, where the formulas that it is handed mean something.
use Rattle.std.specs.Prelude.{ℕ, ◌+◌, ◌≤◌, ◌<◌, ◌≡◌, List, length, Option, Some, None}
use Rattle.procap.specs.Bytes.{byte}
use Rattle.procap.specs.declared.time.Time.{Time}
use Rattle.procap.specs.declared.fact.Fact.{Fact}
use Rattle.bl.specs.declared.FormulaTag.{FormulaTag}
use Rattle.bl.specs.declared.Sort.{Sort}
use Rattle.bl.specs.Trees.{Place, Formula}
use Rattle.bl.specs.Formulas.{argument}
use Rattle.bl.specs.Certificates.{Statement}
use Rattle.bl.specs.Strength.{Pair}
use Rattle.bl.specs.Rules.{Assumption}
use Rattle.bl.specs.Questions.{Walk, Test}
use Rattle.bl.specs.Steps as steps
use Rattle.bl.specs.Walk as walk
use Rattle.strength.specs.Strengths.{StrengthsLent, LentStrengthsOf}
use Rattle.ledger.specs.declared.Ledger.{Ledger}
use Rattle.ledger.specs.Books.{GoesOn, Book, book, Sound, Gives, Leads}
use Rattle.formula.specs.declared.parts.Judgement.{Judgement}
use Rattle.formula.specs.declared.terms.Terms.{Terms}
use Rattle.formula.specs.PutIn.{terms_of, FewTerms, fill_place}
use Rattle.formula.specs.Meaning.{Means, On}
use Rattle.judging.specs.declared.judge.View.{View}
use Rattle.judging.specs.declared.judge.Scope.{Scope}
use Rattle.judging.specs.declared.judge.Inferred.{Inferred}
use Rattle.judging.specs.declared.judge.Checked.{Checked}
use Rattle.judging.specs.declared.judge.Sides.{Sides}
use Rattle.judging.specs.declared.judge.Shell.{Shell}
use Rattle.judging.specs.declared.judge.Span.{Span}
use Rattle.judging.specs.declared.judge.Inside.{Inside}
use Rattle.judging.specs.declared.judge.Application.{Application}
use Rattle.judging.specs.RowsOf.{RowIs, Assumed, Certified, most_rows, row_in}
use Rattle.judging.specs.Judging.{view_in, use_local, use_certificate, part_of, sides, TwoSided, at_parts, says_parts, inside, falsity_inferred, fact_goal, fits_goal, and_then, Takes, Yields, Passes, Used}
use Rattle.judging.specs.Pieces.{two_times}

-- What a principal claims or certifies is usable in the view, by the pairs that gave the strengths.
abbrev pub NeedsView : StrengthsLent → Ledger → ℕ → Option View → ℕ → Judgement → Ledger → Type 0
NeedsView strengths l q v k j r = (ps : List Pair) → LentStrengthsOf strengths ps → Leads l (walk.need_view ps q (view_in v) k j.from j.to) r

-- A row that is an assumption is used as it stands.
abbrev pub UsesRow : List ℕ → StrengthsLent → ℕ → Scope → ℕ → Ledger → ℕ → Inferred → Type 0
UsesRow rows strengths index scope q l next r =
    (state buffer : List ℕ) (list : List Fact) (ps : List Pair) (x : Assumption) → Sound (book l list) → index < most_rows
    → LentStrengthsOf strengths ps → RowIs buffer (row_in rows index) index scope.shut x
    → Yields state buffer (book l list) (walk.assumed ps q (view_in scope.view) x) next r list

-- 20: where the rows are the assumptions Γ, and the byte after the tag names one of them, that one is used.
abbrev pub UsesLocal : List ℕ → List ℕ → StrengthsLent → Scope → ℕ → Ledger → Inferred → Type 0
UsesLocal proof rows strengths scope q l r =
    (state buffer : List ℕ) (list : List Fact) (ps : List Pair) (Γ : List Assumption) (i e : ℕ) → Sound (book l list) → LentStrengthsOf strengths ps → Assumed buffer rows scope.shut scope.count Γ
    → scope.count ≤ most_rows → byte proof (q + 1) ≡ Some (i, e) → i < scope.count
    → Yields state buffer (book l list) (use_local ps q (view_in scope.view) Γ i) e r list

-- 21: where the rows are the certificates cs, and the byte after the tag names one of them, that one is used.
abbrev pub UsesCertificate : List ℕ → List ℕ → StrengthsLent → Scope → ℕ → Ledger → Inferred → Type 0
UsesCertificate proof rows strengths scope q l r =
    (state buffer : List ℕ) (list : List Fact) (ps : List Pair) (cs : List Statement) (i e : ℕ) → Sound (book l list) → LentStrengthsOf strengths ps → Certified buffer rows cs
    → byte proof (q + 1) ≡ Some (i, e) → i < length cs
    → Yields state buffer (book l list) (use_certificate ps q (view_in scope.view) cs i) e r list

-- A formula with two sides, of the tag wanted, is taken apart; both sides keep the interval.
abbrev pub TakesSides : List ℕ → ℕ → FormulaTag → Judgement → Ledger → Sides → Type 0
TakesSides bytes q wanted j l r =
    (F : Formula) → TwoSided wanted → Means bytes 0 j.formula F
    → Takes (sides wanted q F) q l r.ledger (λ x. On bytes (part_of j r.first) x.0 j.from j.to × On bytes (part_of j r.second) x.1 j.from j.to)

-- The same of what was inferred, where the walk goes on.
abbrev pub TakesSidesInferred : List ℕ → ℕ → FormulaTag → Inferred → Sides → Type 0
TakesSidesInferred buffer q wanted inferred r = GoesOn inferred.ledger → TakesSides buffer q wanted inferred.judgement inferred.ledger r

-- Where it has stopped, the ledger stays.
abbrev pub StaysStopped : Inferred → Ledger → Type 0
StaysStopped inferred l = (GoesOn inferred.ledger → ⊥) → l ≡ inferred.ledger

-- Two places that are read one after the other, and filled, must be times.
abbrev pub TakesTimes : List ℕ → ℕ → Terms → ℕ → Ledger → Span → Type 0
TakesTimes bytes at terms q l r =
    (sorts : List Sort) (x y : Place) (middle end : ℕ) → FewTerms terms → argument bytes sorts at ≡ Some (x, middle) → argument bytes sorts middle ≡ Some (y, end)
    → Takes (two_times q (fill_place 0 (terms_of terms) x) (fill_place 0 (terms_of terms) y)) q l r.ledger
    (λ t. (r.from ≡ t.0) × (r.to ≡ t.1) × (r.next ≡ end))

-- 28, 29: an "at" is taken apart.
abbrev pub TakesAt : List ℕ → ℕ → Judgement → Ledger → Inside → Type 0
TakesAt bytes q j l r =
    (F : Formula) → Means bytes 0 j.formula F
    → Takes (at_parts q F) q l r.ledger (λ x. (r.row.whose ≡ None) × On bytes r.row.judgement x.0 x.1 x.2)

-- 2A, 2B: a "says" is taken apart; what is said keeps the interval.
abbrev pub TakesSays : List ℕ → ℕ → Judgement → Ledger → Inside → Type 0
TakesSays bytes q j l r =
    (F : Formula) → Means bytes 0 j.formula F
    → Takes (says_parts q F) q l r.ledger (λ x. (r.row.whose ≡ Some x.0) × On bytes r.row.judgement x.1 j.from j.to)

-- 28, 29, 2A, 2B, 2E, 2F: what stands inside of a shell is taken out, as a row that is that assumption.
abbrev pub TakesInside : List ℕ → ℕ → Shell → Judgement → Ledger → Inside → Type 0
TakesInside bytes q shell j l r =
    (F : Formula) → Means bytes 0 j.formula F → Takes (inside shell q (F, j.from, j.to)) q l r.ledger (RowIs bytes r.row 0 0)

-- 29, 2B: the same of what was inferred, where the walk goes on.
abbrev pub TakesInsideInferred : List ℕ → ℕ → Shell → Inferred → Inside → Type 0
TakesInsideInferred buffer q shell inferred r = GoesOn inferred.ledger → TakesInside buffer q shell inferred.judgement inferred.ledger r

-- 23, 24, 27: what was inferred is gone on with.
abbrev pub Continues : List ℕ → Inferred → (walk.Judgement → Walk walk.Judgement) → Inferred → Type 0
Continues buffer inferred g r =
    (state : List ℕ) (b : Book) (w : Walk walk.Judgement) (e : ℕ) (list : List Fact)
    → Yields state buffer b w e inferred list → Yields state buffer b (and_then w g) e r list

-- 26: an implication is put to use on the times that stand where its second step ends.
abbrev pub PutsToUse : List ℕ → List ℕ → ℕ → Inferred → ℕ → Application → Type 0
PutsToUse buffer proof q inferred second_end r =
    (state : List ℕ) (list : List Fact) (F : Formula) (a b t1 t2 : Time) (c e₃ e₄ : ℕ)
    → GoesOn inferred.ledger → Sound (book inferred.ledger list) → On buffer inferred.judgement F a b
    → steps.time proof c second_end ≡ Some (t1, e₃) → steps.time proof c e₃ ≡ Some (t2, e₄)
    → Used state buffer q list inferred.ledger F a b t1 t2 inferred.next e₄ r

-- 25, 2D: a goal is met, or is not of the kind.
abbrev pub MeetsGoal : List ℕ → Judgement → Ledger → (Formula → Test) → Ledger → Type 0
MeetsGoal bytes goal l w r =
    (state : List ℕ) (list : List Fact) (G : Formula) → Sound (book l list) → Means bytes 0 goal.formula G
    → Gives state (book l list) (w G) (book r list) tt

-- 2C: the same, and the fact may be listed.
abbrev pub MeetsFact : List ℕ → List ℕ → List Fact → ℕ → Judgement → Ledger → Ledger → List Fact → Type 0
MeetsFact bytes state list q goal l r list' =
    (G : Formula) → Sound (book l list) → Means bytes 0 goal.formula G → Gives state (book l list) (fact_goal q G) (book r list') tt

-- An inferring step where one is checked: the same formula, on an interval around the goal's.
abbrev pub FitsGoal : List ℕ → List ℕ → ℕ → Inferred → Judgement → Ledger → Type 0
FitsGoal buffer bytes q inferred goal r =
    (state : List ℕ) (list : List Fact) (F : Formula) (a b : Time) (G : Formula)
    → Sound (book inferred.ledger list) → On buffer inferred.judgement F a b → Means bytes 0 goal.formula G
    → Gives state (book inferred.ledger list) (fits_goal q F a b G goal.from goal.to) (book r list) tt

-- The same with the walk that inferred it: where that has stopped, so has the whole.
abbrev pub ChecksInferred : List ℕ → List ℕ → ℕ → Inferred → Judgement → Checked → Type 0
ChecksInferred buffer bytes q inferred goal r =
    (state : List ℕ) (b : Book) (w : Walk walk.Judgement) (e : ℕ) (list : List Fact) (G : Formula)
    → Yields state buffer b w e inferred list → Means bytes 0 goal.formula G
    → Passes state b (and_then w (λ j. fits_goal q j.0 j.1 j.2 G goal.from goal.to)) e r list

-- 31: the walk that inferred it, and then that it is falsity.
abbrev pub ChecksFalsity : List ℕ → ℕ → Inferred → Checked → Type 0
ChecksFalsity buffer q inferred r =
    (state : List ℕ) (b : Book) (w : Walk walk.Judgement) (e : ℕ) (list : List Fact)
    → Yields state buffer b w e inferred list → Passes state b (and_then w (falsity_inferred q)) e r list
