-- What the steps promise of strengths and of a list of facts that a caller lends as plain numbers. What a step whose call takes no strengths
-- promises of such a list follows from what StepPromises says of it, by the laws in proofs/StepsInNumbers.antt and proofs/ByNumbers.antt.
use Rattle.std.specs.Prelude.{ℕ, ◌+◌, ◌≤◌, ◌<◌, ◌≡◌, List, length, Some}
use Rattle.procap.specs.Bytes.{byte}
use Rattle.procap.specs.declared.fact.Fact.{Fact}
use Rattle.procap.specs.declared.time.Time.{Time}
use Rattle.bl.specs.Trees.{Formula}
use Rattle.bl.specs.Certificates.{Statement}
use Rattle.bl.specs.Questions.{Walk, Test, done, misfit}
use Rattle.bl.specs.Strength.{Pair}
use Rattle.bl.specs.Rules.{Assumption}
use Rattle.bl.specs.Steps as steps
use Rattle.bl.specs.Walk as walk
use Rattle.bl.specs.Walk.{need_cover}
use Rattle.strength.specs.InNumbers.{StrengthsOf}
use Rattle.ledger.specs.declared.Ledger.{Ledger}
use Rattle.ledger.specs.declared.numbers.Counted.{Counted}
use Rattle.ledger.specs.Books as books
use Rattle.ledger.specs.Books.{GoesOn}
use Rattle.ledger.specs.Numbers.{Book, book, counted, Sound, Gives}
use Rattle.formula.specs.declared.parts.Judgement.{Judgement}
use Rattle.formula.specs.Meaning.{Means, On}
use Rattle.judging.specs.declared.judge.Scope.{Scope}
use Rattle.judging.specs.declared.judge.Inferred.{Inferred}
use Rattle.judging.specs.declared.judge.Checked.{Checked}
use Rattle.judging.specs.declared.judge.Application.{Application}
use Rattle.judging.specs.RowsOf.{Assumed, Certified, most_rows}
use Rattle.judging.specs.Judging as judging
use Rattle.judging.specs.Judging.{and_then, view_in, part_of, implies_sides, use_local, use_certificate, falsity_inferred, fact_goal, fits_goal}

-- The walk w, from the book b of a list in numbers, came to a judgement whose step ends at e, with so many facts listed in the numbers then; where it stopped the rest says nothing.
pub record Yields (state buffer : List ℕ) (b : Book) (w : Walk walk.Judgement) (e : ℕ) (r : Inferred) (count : ℕ) (list : List ℕ) : Type 0 where
  pub formula : Formula
  pub from : Time
  pub to : Time
  pub gives : Gives state b w (book (counted r.ledger count) list) (formula, from, to)
  pub on : GoesOn r.ledger → On buffer r.judgement formula from to
  pub ends : GoesOn r.ledger → r.next ≡ e

-- The walk w, from the book b of a list in numbers, was passed or stopped, and its step ends at e.
pub record Passes (state : List ℕ) (b : Book) (w : Test) (e : ℕ) (r : Checked) (count : ℕ) (list : List ℕ) : Type 0 where
  pub gives : Gives state b w (book (counted r.ledger count) list) tt
  pub ends : GoesOn r.ledger → r.next ≡ e

-- 26, before its second step, by a list in numbers: an implication put to use on [t1,t2], or nothing of the kind.
pub data Used (state buffer : List ℕ) (q count : ℕ) (list : List ℕ) (l : Ledger) (F : Formula) (a b t1 t2 : Time) (middle next : ℕ) (r : Application) : Type 0 where
  used : (A B : Formula) → implies_sides q F ≡ done (A, B)
      → Gives state (book (counted l count) list) (need_cover q a b t1 t2) (book (counted r.ledger count) list) tt
      → On buffer r.premise A t1 t2 → On buffer (part_of r.premise r.conclusion) B t1 t2 → r.middle ≡ middle → r.next ≡ next
      → Used state buffer q count list l F a b t1 t2 middle next r
  unused : implies_sides q F ≡ misfit q → Gives state (book (counted l count) list) (misfit q) (book (counted r.ledger count) list) (tt {0})
      → Used state buffer q count list l F a b t1 t2 middle next r

-- 20: where the rows are the assumptions Γ, the numbers are the strengths, and the byte after the tag names one of them, that one is used: by a list of facts,
abbrev pub UsesLocal : List ℕ → List ℕ → List ℕ → Scope → ℕ → Ledger → Inferred → Type 0
UsesLocal proof rows strengths scope q l r =
    (state buffer : List ℕ) (list : List Fact) (ps : List Pair) (Γ : List Assumption) (i e : ℕ) → books.Sound (books.book l list) → StrengthsOf strengths ps → Assumed buffer rows scope.shut scope.count Γ
    → scope.count ≤ most_rows → byte proof (q + 1) ≡ Some (i, e) → i < scope.count
    → judging.Yields state buffer (books.book l list) (use_local ps q (view_in scope.view) Γ i) e r list

-- and by a list in numbers and its count.
abbrev pub UsesLocalInNumbers : List ℕ → List ℕ → List ℕ → Scope → ℕ → Ledger → Inferred → Type 0
UsesLocalInNumbers proof rows strengths scope q l r =
    (state buffer list : List ℕ) (count : ℕ) (ps : List Pair) (Γ : List Assumption) (i e : ℕ) → Sound (book (counted l count) list) → StrengthsOf strengths ps → Assumed buffer rows scope.shut scope.count Γ
    → scope.count ≤ most_rows → byte proof (q + 1) ≡ Some (i, e) → i < scope.count
    → Yields state buffer (book (counted l count) list) (use_local ps q (view_in scope.view) Γ i) e r count list

-- 21: where the rows are the certificates cs, the numbers are the strengths, and the byte after the tag names one of them, that one is used: by a list of facts,
abbrev pub UsesCertificate : List ℕ → List ℕ → List ℕ → Scope → ℕ → Ledger → Inferred → Type 0
UsesCertificate proof rows strengths scope q l r =
    (state buffer : List ℕ) (list : List Fact) (ps : List Pair) (cs : List Statement) (i e : ℕ) → books.Sound (books.book l list) → StrengthsOf strengths ps → Certified buffer rows cs
    → byte proof (q + 1) ≡ Some (i, e) → i < length cs
    → judging.Yields state buffer (books.book l list) (use_certificate ps q (view_in scope.view) cs i) e r list

-- and by a list in numbers and its count.
abbrev pub UsesCertificateInNumbers : List ℕ → List ℕ → List ℕ → Scope → ℕ → Ledger → Inferred → Type 0
UsesCertificateInNumbers proof rows strengths scope q l r =
    (state buffer list : List ℕ) (count : ℕ) (ps : List Pair) (cs : List Statement) (i e : ℕ) → Sound (book (counted l count) list) → StrengthsOf strengths ps → Certified buffer rows cs
    → byte proof (q + 1) ≡ Some (i, e) → i < length cs
    → Yields state buffer (book (counted l count) list) (use_certificate ps q (view_in scope.view) cs i) e r count list

-- 23, 24, 27: what was inferred by a list in numbers is gone on with.
abbrev pub ContinuesInNumbers : List ℕ → Inferred → (walk.Judgement → Walk walk.Judgement) → Inferred → Type 0
ContinuesInNumbers buffer inferred g r =
    (state : List ℕ) (b : Book) (w : Walk walk.Judgement) (e count : ℕ) (list : List ℕ)
    → Yields state buffer b w e inferred count list → Yields state buffer b (and_then w g) e r count list

-- 26: an implication is put to use on the times that stand where its second step ends.
abbrev pub PutsToUseInNumbers : List ℕ → List ℕ → ℕ → Inferred → ℕ → Application → Type 0
PutsToUseInNumbers buffer proof q inferred second_end r =
    (state : List ℕ) (count : ℕ) (list : List ℕ) (F : Formula) (a b t1 t2 : Time) (c e₃ e₄ : ℕ)
    → GoesOn inferred.ledger → Sound (book (counted inferred.ledger count) list) → On buffer inferred.judgement F a b
    → steps.time proof c second_end ≡ Some (t1, e₃) → steps.time proof c e₃ ≡ Some (t2, e₄)
    → Used state buffer q count list inferred.ledger F a b t1 t2 inferred.next e₄ r

-- 25, 2D: a goal is met, or is not of the kind.
abbrev pub MeetsGoalInNumbers : List ℕ → Judgement → Ledger → (Formula → Test) → Ledger → Type 0
MeetsGoalInNumbers bytes goal l w r =
    (state : List ℕ) (count : ℕ) (list : List ℕ) (G : Formula) → Sound (book (counted l count) list) → Means bytes 0 goal.formula G
    → Gives state (book (counted l count) list) (w G) (book (counted r count) list) tt

-- 2C: a goal is met, or is not of the kind, and the fact may be listed in the numbers.
abbrev pub MeetsFact : List ℕ → List ℕ → List ℕ → ℕ → Judgement → Counted → Counted → List ℕ → Type 0
MeetsFact bytes state list q goal c r list' =
    (G : Formula) → Sound (book c list) → Means bytes 0 goal.formula G → Gives state (book c list) (fact_goal q G) (book r list') tt

-- An inferring step where one is checked: the same formula, on an interval around the goal's, with the walk that inferred it by a list in numbers.
abbrev pub ChecksInferredInNumbers : List ℕ → List ℕ → ℕ → Inferred → Judgement → Checked → Type 0
ChecksInferredInNumbers buffer bytes q inferred goal r =
    (state : List ℕ) (b : Book) (w : Walk walk.Judgement) (e count : ℕ) (list : List ℕ) (G : Formula)
    → Yields state buffer b w e inferred count list → Means bytes 0 goal.formula G
    → Passes state b (and_then w (λ j. fits_goal q j.0 j.1 j.2 G goal.from goal.to)) e r count list

-- 31: the walk that inferred it, and then that it is falsity.
abbrev pub ChecksFalsityInNumbers : List ℕ → ℕ → Inferred → Checked → Type 0
ChecksFalsityInNumbers buffer q inferred r =
    (state : List ℕ) (b : Book) (w : Walk walk.Judgement) (e count : ℕ) (list : List ℕ)
    → Yields state buffer b w e inferred count list → Passes state b (and_then w (falsity_inferred q)) e r count list
