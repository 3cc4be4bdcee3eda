-- What verify and the direct check come to, test by test: what is malformed refuses the case before the walk, and what the walk has come to
-- is the rest.
use Prim.Native.Nat.{ℕ, ◌≤◌, ◌<◌}
use native.Mathlib.Omega.{arith}
use native.Mathlib.Decide.{dec_le}
use mathlib.Core.Path.{◌≡◌, refl, sym, ap, ◌∙◌}
use mathlib.Core.List.{List, [], map}
use Rattle.std.specs.Prelude.{Err, None, Ok, Option, Some}
use lib.ListN.{length}
use Rattle.procap.specs.Times.{latest}
use Rattle.procap.specs.Facts.{Spelled, spelled}
use Rattle.procap.specs.Procaps.{procap_of}
use Rattle.procap.specs.States.{stated}
use Rattle.procap.specs.Desk.{read_press}
use Rattle.procap.specs.Outcome.{Outcome, go_on, or_else}
use Rattle.procap.specs.declared.answer.Answer.{Answer}
use Rattle.procap.specs.declared.answer.Answer.TheVariants.{ProofMalformed, NoMomentLeft, StateMalformed, MomentAboveLatest, TooManyPairs}
use Rattle.procap.specs.declared.procap.Request.{Request}
use Rattle.procap.specs.declared.procap.Procap.{Procap}
use Rattle.procap.proofs.Granted.{goes_on, is_so, is_not_so, no_grant, reads_press}
use Rattle.procap.specs.declared.fact.Fact.{Fact}
use Rattle.state.specs.Standing.{WellFormed}
use Rattle.bl.specs.declared.Certificate.{Certificate}
use Rattle.bl.specs.Trees.{Check}
use Rattle.bl.specs.Certificates.{statements}
use Rattle.bl.specs.Strength.{most_pairs, pairs_in, pairs_of}
use Rattle.bl.specs.Policy.{Policy, policy_in}
use Rattle.bl.specs.Questions.{Walk, done}
use Rattle.bl.specs.Steps.{proof_in}
use Rattle.bl.specs.Walk.{walk}
use Rattle.bl.specs.Readings.{Kept, start, office, press, run}
use Rattle.bl.specs.Calls.{Case, read_case, issue, verified, directly}
use Rattle.bl.proofs.Called.{few_pairs, too_many_pairs, policy_from, case_read}
use Rattle.ledger.specs.declared.Reading.{Reading}
use Rattle.ledger.specs.declared.Reading.TheVariants.{Office, Press}
use Rattle.ledger.specs.declared.Ledger.{Ledger}
use Rattle.ledger.specs.Books.{begun, stop_of, GoesOn, Book, book, Sound, kept_of, facts_said, resume}
use Rattle.ledger.proofs.Giving.{stop_refused, stop_going}
use Rattle.verifier.specs.Verifying.{Stops, Taken, Walked, PolicyRead, CaseRead}
use Rattle.steps.specs.Ends.{ToldChecking}
use Rattle.verifier.proofs.CertificateLaws.{statements_count}
use Rattle.verifier.proofs.WalkBegins.{office_begins, press_begins}

-- What goes on from a refusal is that refusal.
refused_on : {A B : Type 0} (o : Outcome A) (f : A → Outcome B) (answer : Answer) → o ≡ Err answer → go_on o f ≡ Err answer
unfolding go_on
refused_on o f answer e = rw e refl

-- ── The end ──

module _ (r : Request) (l : Ledger) (list : List Fact) where
  pub none_left : l.to < l.from → Err NoMomentLeft ≡ issue r (kept_of (book l list))
  unfolding issue kept_of
  none_left e = sym (refused_on _ _ NoMomentLeft (is_not_so NoMomentLeft (dec_le l.from l.to) (λ h. omega arith)))

  pub some_left : l.from ≤ l.to → (p : Procap) → p ≡ procap_of r l.from l.to (map spelled list) → Ok p ≡ issue r (kept_of (book l list))
  unfolding issue kept_of
  some_left h p is = ap Ok is ∙ sym (goes_on _ _ tt (is_so NoMomentLeft (dec_le l.from l.to) h))

-- ── What is malformed ──

module _ (records : List Certificate) (buffer pairs : List ℕ) where
  -- What stops the certificates stops the policy, and then what stops the pairs.
  pub policy_stops : (one other : Outcome (Unit {0})) → Stops (statements buffer records) one → Stops (pairs_in pairs) other
      → Stops (policy_in records buffer pairs) (go_on one (λ _. other))
  unfolding policy_in go_on
  policy_stops (Ok _) (Ok _) (cs, e) (ps, f) = (_, goes_on _ _ cs e ∙ goes_on _ _ ps f)
  policy_stops (Ok _) (Err answer) (cs, e) f = goes_on _ _ cs e ∙ refused_on _ _ answer f
  policy_stops (Err answer) other e f = refused_on _ _ answer e

module _ (records : List Certificate) (buffer pairs proof rows ends : List ℕ) where
  -- What the case comes to.
  abbrev ReadWith : Outcome (Unit {0}) → Type 0
  ReadWith = CaseRead records buffer pairs proof rows ends

  -- It is refused.
  refuses : (answer : Answer) → read_case records buffer pairs proof ≡ Err answer → ReadWith (Err answer)
  refuses answer e = record { stops = e; reads = λ x f. no_grant (sym e ∙ f) }

  policy_refuses : (answer : Answer) → policy_in records buffer pairs ≡ Err answer → ReadWith (Err answer)
  unfolding read_case
  policy_refuses answer e = refuses answer (refused_on _ _ answer e)

  -- What refuses the certificates refuses the case,
  pub records_refuse : (answer : Answer) → Taken records buffer (Err answer) rows → ReadWith (Err answer)
  unfolding policy_in
  records_refuse answer taken = policy_refuses answer (refused_on _ _ answer taken.stops)

  module _ (taken : Taken records buffer (Ok tt) rows) where
    -- then too many pairs,
    pub pairs_refuse : most_pairs < length pairs → ReadWith (Err TooManyPairs)
    unfolding policy_in
    pairs_refuse many = policy_refuses TooManyPairs (goes_on _ _ taken.stops.0 taken.stops.1 ∙ refused_on _ _ TooManyPairs (too_many_pairs pairs many))

    module _ (few : length pairs ≤ most_pairs) where
      policy : Policy
      policy = record { statements = taken.stops.0; pairs = pairs_of pairs }

      policy_reads : policy_in records buffer pairs ≡ Ok policy
      unfolding policy_in policy
      policy_reads = goes_on _ _ taken.stops.0 taken.stops.1 ∙ goes_on _ _ _ (few_pairs pairs few)

      -- and then bytes that are no proof.
      pub proof_refuses : ((N : Check) × (proof_in (length records) proof ≡ Some N) → ⊥) → ReadWith (Err ProofMalformed)
      unfolding read_case or_else go_on
      proof_refuses none = refuses ProofMalformed (goes_on _ _ policy policy_reads ∙ by (proof_in (length records) proof) refl)
        where
          by : (o : Option Check) → proof_in (length records) proof ≡ o
              → go_on {B = Case} (or_else ProofMalformed o) (λ N. Ok (policy, N)) ≡ Err ProofMalformed
          by None e = refl
          by (Some N) e = absurd (none (N, e))

      -- Where nothing is malformed it reads, with the rows and the table.
      pub case_reads : (N : Check) → proof_in (length records) proof ≡ Some N → ((M : Check) → proof_in (length records) proof ≡ Some M → ToldChecking ends M)
          → ReadWith (Ok tt)
      unfolding read_case or_else
      case_reads N e told = record {
        stops = ((policy, N), goes_on _ _ policy policy_reads ∙ goes_on _ _ N (rw e refl));
        reads = λ (π, M) read.
            case_read (record { who = 0; what = 0; right = 0 }) records buffer pairs proof π M read λ e₁ e₂.
            policy_from records buffer pairs π e₁ λ e₃ e₄.
            record {
              policy = record { certified = taken.rows_are π.statements e₃; paired = e₄ };
              proof_reads = rw (statements_count buffer records π.statements e₃) e₂;
              told = told M e₂;
            };
      }

-- ── What the calls come to once the case is read ──

module _ (r : Request) (records : List Certificate) (buffer pairs proof : List ℕ) where
  -- A malformed case refuses both.
  pub verify_refused : (answer : Answer) → read_case records buffer pairs proof ≡ Err answer → Err answer ≡ verified r records buffer pairs proof
  unfolding verified
  verify_refused answer e = sym (refused_on _ _ answer e)

  pub direct_refused : (m : ℕ) (state : List ℕ) (answer : Answer) → read_case records buffer pairs proof ≡ Err answer
      → Err answer ≡ directly r records buffer pairs proof m state
  unfolding directly
  direct_refused m state answer e = sym (refused_on _ _ answer e)

  -- Else they go on with it.
  module _ (x : Case) (read : read_case records buffer pairs proof ≡ Ok x) where
    verify_from : verified r records buffer pairs proof ≡ go_on (run office (walk r x.0 x.1) start) (λ w. issue r w.1)
    unfolding verified
    verify_from = goes_on _ _ x read

    direct_from : (m : ℕ) (state : List ℕ)
        → directly r records buffer pairs proof m state ≡ go_on (read_press m state) (λ σ. go_on (run (press m σ) (walk r x.0 x.1) start) (λ w. Ok w.0))
    unfolding directly
    direct_from m state = goes_on _ _ x read

    -- The direct check refuses a moment above the latest, and then a malformed state.
    pub moment_above : (m : ℕ) (state : List ℕ) → latest < m → Err MomentAboveLatest ≡ directly r records buffer pairs proof m state
    unfolding read_press
    moment_above m state h =
        sym (direct_from m state ∙ refused_on _ _ _ (refused_on _ _ _ (is_not_so MomentAboveLatest (dec_le m latest) (λ k. omega arith))))

    pub state_says_nothing : (m : ℕ) (state : List ℕ) → m ≤ latest → (WellFormed state → ⊥) → Err StateMalformed ≡ directly r records buffer pairs proof m state
    unfolding read_press or_else
    state_says_nothing m state h n =
        sym (direct_from m state ∙ refused_on _ _ _ (goes_on _ _ tt (is_so MomentAboveLatest (dec_le m latest) h) ∙ by (stated state) refl))
      where
        by : (o : Option (List Spelled)) → stated state ≡ o → or_else StateMalformed o ≡ Err StateMalformed
        by None e = refl
        by (Some σ) e = absurd (n (σ, e))

-- ── The walk's end ──

-- A book that has stopped is refused with its answer, one that goes on is granted what it keeps.
resume_stopped : (state : List ℕ) (b : Book) (answer : Answer) → stop_of b.ledger ≡ Err answer → resume state b (done (tt {0})) ≡ Err answer
unfolding resume
resume_stopped state b answer e = stop_refused _ answer _ e

resume_going : (state : List ℕ) (b : Book) → GoesOn b.ledger → resume state b (done (tt {0})) ≡ Ok (tt, kept_of b)
unfolding resume run
resume_going state b e = stop_going _ _ e

module _ (r : Request) (records : List Certificate) (buffer pairs proof : List ℕ) {rows ends : List ℕ} (case : CaseRead records buffer pairs proof rows ends (Ok tt))
    (state : List ℕ) (reading : Reading) (list : List Fact) (l : Ledger) (list' : List Fact) (none : list ≡ [])
    (walked : Walked (record { request = r; reading = reading }) (PolicyRead buffer rows pairs) proof state ends list l list') where
  -- The case that was read.
  abbrev the_case : Case
  the_case = case.stops.0

  abbrev the_walk : Walk (Unit {0})
  the_walk = walk r the_case.0 the_case.1

  -- What the walk comes to, from the ledger at its start.
  abbrev begins : Outcome (Unit {0} × Kept)
  begins = resume state (book (begun reading) list) the_walk

  came : Sound (book l list') × (resume state (book l list') (done (tt {0})) ≡ begins)
  came = walked the_case.0 the_case.1 none (case.reads the_case case.stops.1)

  walk_stopped : (answer : Answer) → stop_of l ≡ Err answer → begins ≡ Err answer
  walk_stopped answer e = sym came.1 ∙ resume_stopped state (book l list') answer e

  walk_done : GoesOn l → begins ≡ Ok (tt, kept_of (book l list'))
  walk_done e = sym came.1 ∙ resume_going state (book l list') e

  -- At the office its answer refuses; else what its ledger keeps is issued.
  module _ (at_office : reading ≡ Office) where
    office_run : begins ≡ run office the_walk start
    office_run = rw (at_office, none) (office_begins state the_walk)

    pub verify_stopped : (answer : Answer) → stop_of l ≡ Err answer → Err answer ≡ verified r records buffer pairs proof
    verify_stopped answer e =
        sym (verify_from r records buffer pairs proof the_case case.stops.1 ∙ refused_on _ _ answer (sym office_run ∙ walk_stopped answer e))

    pub verify_issued : GoesOn l → (o : Outcome Procap) → (Sound (book l list') → o ≡ issue r (kept_of (book l list'))) → o ≡ verified r records buffer pairs proof
    verify_issued e o issues =
        issues came.0
        ∙ sym (verify_from r records buffer pairs proof the_case case.stops.1 ∙ goes_on _ _ (tt, kept_of (book l list')) (sym office_run ∙ walk_done e))

  -- At a press in range, in a state that says something, what it has come to is the answer.
  module _ (m : ℕ) (at_press : reading ≡ Press m) (in_range : m ≤ latest) (says : WellFormed state) where
    press_run : begins ≡ run (press m says.0) the_walk start
    unfolding facts_said
    press_run = rw (at_press, none) (press_begins state the_walk m in_range ∙ rw says.1)

    check_from : directly r records buffer pairs proof m state ≡ go_on (run (press m says.0) the_walk start) (λ w. Ok w.0)
    check_from = direct_from r records buffer pairs proof the_case case.stops.1 m state ∙ goes_on _ _ says.0 (reads_press m state says.0 in_range says.1)

    pub check_answers : (o : Outcome (Unit {0})) → o ≡ stop_of l → o ≡ directly r records buffer pairs proof m state
    check_answers (Ok tt) e = sym (check_from ∙ goes_on _ _ (tt, kept_of (book l list')) (sym press_run ∙ walk_done (sym e)))
    check_answers (Err a) e = sym (check_from ∙ refused_on _ _ a (sym press_run ∙ walk_stopped a (sym e)))
