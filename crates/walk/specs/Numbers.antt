-- What the walk over plain numbers promises: the same of strengths, and of a list of facts, that a caller lends as numbers.
use Rattle.std.specs.Prelude.{ℕ, ◌+◌, ◌≤◌, ◌≡◌, List, length, Some}
use Rattle.procap.specs.Lent.{LentToWrite}
use Rattle.bl.specs.Trees.{Formula, Check}
use Rattle.bl.specs.Policy.{Policy}
use Rattle.bl.specs.Rules.{Assumption}
use Rattle.bl.specs.Questions.{Test}
use Rattle.bl.specs.Steps.{check_step, most_proof_levels}
use Rattle.bl.specs.Walk.{check}
use Rattle.strength.specs.InNumbers.{StrengthsOf}
use Rattle.steps.specs.Ends.{ToldChecking}
use Rattle.ledger.specs.Books.{GoesOn}
use Rattle.ledger.specs.declared.numbers.Counted.{Counted}
use Rattle.ledger.specs.Numbers.{counted, Book, book, Sound, Gives}
use Rattle.formula.specs.Meaning.{Means}
use Rattle.judging.specs.declared.judge.Scope.{Scope}
use Rattle.judging.specs.RowsOf.{Assumed, Certified, all_numbers}
use Rattle.judging.specs.Judging.{view_in}
use Rattle.walk.specs.declared.Goal.{Goal}
use Rattle.walk.specs.declared.Here.{Here}
use Rattle.walk.specs.declared.numbers.Sources as code
use Rattle.walk.specs.declared.numbers.Checked.{Checked}

-- What is lent all through a walk: formulas, proof and state in bytes, certificates in rows, strengths in numbers, and where
-- second parts end.
pub record Sources : Type 0 where
  pub buffer : List ℕ
  pub proof : List ℕ
  pub state : List ℕ
  pub certificates : List ℕ
  pub strengths : List ℕ
  pub ends : List ℕ

-- What is lent all through, as the lists that stand there.
abbrev pub sources : code.Sources → Sources
sources lent = record {
  buffer = lent.buffer.now;
  proof = lent.proof.now;
  state = lent.state.now;
  certificates = lent.certificates.now;
  strengths = lent.strengths.now;
  ends = lent.ends.now;
}

-- The policy is what is lent: rows that are its certificates, and numbers that are the strengths of its pairs.
pub record PolicyLent (buffer certificates strengths : List ℕ) (π : Policy) : Type 0 where
  pub certified : Certified buffer certificates π.statements
  pub strong : StrengthsOf strengths π.pairs

-- What stands around a step: the policy that is lent, and rows that are the assumptions Γ, none shut out that is yet to come,
-- with room for one more at each level left, in as many numbers as all rows take.
pub record Around (S : Sources) (rows : List ℕ) (scope : Scope) (left : ℕ) (π : Policy) (Γ : List Assumption) : Type 0 where
  pub policy : PolicyLent S.buffer S.certificates S.strengths π
  pub assumed : Assumed S.buffer rows scope.shut scope.count Γ
  pub shut_inside : scope.shut ≤ scope.count
  pub room : scope.count + left ≤ most_proof_levels
  pub all_there : length rows ≡ all_numbers

-- The walk w, from the book b, was passed or stopped, and its step ends at e.
pub record Passes (state : List ℕ) (b : Book) (w : Test) (e : ℕ) (r : Checked) (list : List ℕ) : Type 0 where
  pub gives : Gives state b w (book r.counted list) tt
  pub ends : GoesOn r.counted.ledger → r.next ≡ e

-- The ledger of a step, and how many facts are listed beside it.
abbrev pub counted_in : Here → ℕ → Counted
counted_in here count = counted here.ledger count

-- A step that checks, of at most so many levels: from a sound book, in what stands around, the step that the reader finds is checked
-- against a goal.
abbrev pub Checks : Sources → LentToWrite → ℕ → LentToWrite → Goal → Here → Checked → Type 0
Checks S facts count assumptions goal here r =
    (π : Policy) (Γ : List Assumption) (N : Check) (e : ℕ)
    → Sound (book (counted_in here count) facts.entry.now) → Around S assumptions.entry.now here.scope here.left π Γ
    → check_step S.proof (length π.statements) here.left here.scope.count here.at ≡ Some (N, e) → ToldChecking S.ends N
    → (G : Formula) → Means goal.bytes.now 0 goal.judgement.formula G
    → Passes S.state (book (counted_in here count) facts.entry.now) (check π Γ (view_in here.scope.view) N G goal.judgement.from goal.judgement.to) e r facts.exit.now
