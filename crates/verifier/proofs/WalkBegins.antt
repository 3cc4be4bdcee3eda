-- From a case that reads to the call of the walk: the reader finds the proof's step at the start, nothing is assumed, and the ledger keeps what verify starts with.
use Prim.Native.Nat.{ℕ, ◌+◌, ◌-◌, ◌≤◌}
use native.Mathlib.Omega.{arith}
use mathlib.Core.Path.{◌≡◌, refl}
use mathlib.Core.List.{List, []}
use Rattle.std.specs.Prelude.{Some}
use borrow.Author.Tests.{le-leb}
use lib.ListN.{length}
use Rattle.procap.specs.Times.{latest}
use Rattle.procap.specs.States.{stated}
use Rattle.procap.specs.declared.time.Time.TheVariants.{Ctime}
use Rattle.procap.specs.declared.procap.Request.{Request}
use Rattle.procap.specs.declared.fact.Fact.{Fact}
use Rattle.bl.specs.Trees.{Check}
use Rattle.bl.specs.Policy.{Policy}
use Rattle.bl.specs.Rules.{goal}
use Rattle.bl.specs.Steps.{most_proof_levels, proof_in}
use Rattle.bl.specs.Walk.{walk}
use Rattle.bl.specs.Questions.{Walk}
use Rattle.bl.specs.Readings.{start, office, press, run}
use Rattle.bl.proofs.Called.{proof_step}
use Rattle.bl.proofs.FactsCounted.{at_most_16_asked}
use Rattle.ledger.specs.declared.Reading.{Reading}
use Rattle.ledger.specs.declared.Reading.TheVariants.{Office, Press}
use Rattle.ledger.specs.declared.Ledger.{Ledger}
use Rattle.formula.specs.declared.parts.Judgement.{Judgement}
use Rattle.judging.specs.declared.judge.Checked.{Checked}
use Rattle.ledger.proofs.Stopping.{at_press}
use Rattle.ledger.specs.Books.{begun, stop_by, reading_by, book, Sound, HasRoom, kept_of, facts_said, reading_of, unless_stopped, resume}
use Rattle.formula.specs.PutIn.{no_terms}
use Rattle.formula.specs.Meaning.{Means}
use Rattle.judging.specs.RowsOf.{Assumed, all_numbers}
use Rattle.judging.specs.Judging.{view_in, outermost}
use Rattle.walk.specs.Walking.{PolicyLent, Sources, Around, ChecksAt}
use Rattle.verifier.specs.Verifying.{Walked}

-- No fact is listed at the start, so the book there is sound,
begun_sound : (reading : Reading) → Sound (book (begun reading) [])
begun_sound reading = record { few = omega arith; in_form = refl }

-- and has room for what the walk of a proof that reads asks for, at most 16.
begun_room : (reading : Reading) (proof : List ℕ) (r : Request) (π : Policy) (N : Check) → proof_in (length π.statements) proof ≡ Some N
    → HasRoom (book (begun reading) []) (walk r π N)
begun_room reading proof r π N reads _ = omega (arith, at_most_16_asked r π (length π.statements) proof N reads)

-- A walk read on from there, at the office or at a moment of the clock, is the walk read from what verify starts with.
module _ {A : Type 0} (state : List ℕ) (w : Walk A) where
  pub office_begins : resume state (book (begun Office) []) w ≡ run office w start
  unfolding resume unless_stopped kept_of begun stop_by reading_by reading_of
  office_begins = refl

  pub press_begins : (m : ℕ) → m ≤ latest → resume state (book (begun (Press m)) []) w ≡ run (press m (facts_said (stated state))) w start
  unfolding resume unless_stopped kept_of begun stop_by reading_by reading_of
  press_begins m on_clock =
      let same : m + 1 - 1 ≡ m = omega arith in
      rw (le-leb m latest on_clock, at_press (m + 1) (λ e. omega arith), same)

-- What the walk of a request begins with.
abbrev goal_on_ctime : Judgement
goal_on_ctime = record { formula = record { at = 0; terms = no_terms }; from = Ctime; to = Ctime }

walk_of_goal : (r : Request) (S : Sources) (assumptions goal_bytes : List ℕ) (reading : Reading) (list : List Fact) (c : Checked) (list' : List Fact)
    → length assumptions ≡ all_numbers
    → Means goal_bytes 0 (record { at = 0; terms = no_terms }) (goal r)
    → ChecksAt S assumptions outermost (begun reading) list most_proof_levels goal_bytes goal_on_ctime 0 c list'
    → Walked (record { request = r; reading = reading }) (PolicyLent S.buffer S.certificates S.strengths) S.proof S.state S.ends list c.ledger list'
unfolding Assumed walk view_in
walk_of_goal r S assumptions goal_bytes reading list c list' all_there means checks π N none reads =
    let around : Around S assumptions outermost most_proof_levels π [] = record { policy = reads.policy; assumed = tt; shut_inside = omega arith; room = omega arith; all_there = all_there } in
    let passes = (rw none at checks) π [] N (length S.proof) (begun_sound reading) around (proof_step (length π.statements) S.proof N reads.proof_reads) reads.told (goal r) means in
    rw none (passes.gives.sound, passes.gives.resumed (begun_room reading S.proof r π N reads.proof_reads))

-- So the walk from the goal of a request, with the ledger at its start, is the walk of the proof.
pub walk_of_request : (r : Request) (S : Sources) (assumptions goal_bytes : List ℕ) (reading : Reading) (list : List Fact) (c : Checked) (list' : List Fact) (l : Ledger) (j : Judgement)
    → l ≡ begun reading → j ≡ goal_on_ctime
    → length assumptions ≡ all_numbers
    → Means goal_bytes 0 (record { at = 0; terms = no_terms }) (goal r)
    → ChecksAt S assumptions outermost l list most_proof_levels goal_bytes j 0 c list'
    → Walked (record { request = r; reading = reading }) (PolicyLent S.buffer S.certificates S.strengths) S.proof S.state S.ends list c.ledger list'
walk_of_request r S assumptions goal_bytes reading list c list' l j is_begun is_goal all_there means checks =
    walk_of_goal r S assumptions goal_bytes reading list c list' all_there means (rw (is_begun, is_goal) at checks)
