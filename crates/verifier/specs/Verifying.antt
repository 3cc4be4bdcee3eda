-- What the parts of verify and of the direct check promise.
use Rattle.std.specs.Prelude.{ℕ, ◌≡◌, List, [], length, Err, Ok, Some}
use Rattle.procap.specs.Lent.{Lent}
use Rattle.procap.specs.Outcome.{Outcome, answer_of, procap_handed}
use Rattle.procap.specs.declared.time.Time.TheVariants.{Moment}
use Rattle.procap.specs.declared.fact.Fact.{Fact}
use Rattle.procap.specs.declared.procap.Request.{Request}
use Rattle.procap.specs.declared.procap.Procap.{Procap}
use Rattle.bl.specs.declared.Certificate.{Certificate}
use Rattle.bl.specs.Trees.{Check}
use Rattle.bl.specs.Certificates.{Statement, statements, statement_of}
use Rattle.bl.specs.Strength.{pairs_in}
use Rattle.bl.specs.Policy.{Policy}
use Rattle.bl.specs.Questions.{done}
use Rattle.bl.specs.Steps.{proof_in}
use Rattle.bl.specs.Walk.{walk}
use Rattle.bl.specs.Calls.{Case, read_case, verified, directly}
use Rattle.verifier.specs.declared.verify.Verified.{Verified}
use Rattle.verifier.specs.declared.verify.Asked.{Asked}
use Rattle.steps.specs.Ends.{ToldChecking}
use Rattle.ledger.specs.declared.Ledger.{Ledger}
use Rattle.ledger.specs.Books.{begun, book, Sound, resume}
use Rattle.ledger.specs.Asking.{ListLent}
use Rattle.judging.specs.declared.rows.Row.{Row}
use Rattle.formula.specs.PutIn.{no_terms}
use Rattle.judging.specs.RowsOf.{Certified}
use Rattle.walk.specs.declared.Sources.{Sources}
use Rattle.walk.specs.Walking.{PolicyLent}

-- A record of zeros, which stands past the end of a list of records.
abbrev pub no_record : Certificate
no_record = record { principal = 0; from = Moment 0; to = Moment 0; start = 0; length = 0 }

-- The row of a record: a claim of its principal, with no terms put in.
abbrev pub row_of : Certificate → Row
row_of c = record {
  whose = Some c.principal;
  judgement = record { formula = record { at = c.start; terms = no_terms }; from = c.from; to = c.to };
}

-- A record is well formed.
abbrev pub WellFormedRecord : List ℕ → Certificate → Type 0
WellFormedRecord buffer c = (s : Statement) × (statement_of buffer c ≡ Some s)

-- The policy is what was read: rows that are its certificates, and numbers that are its pairs.
pub record PolicyRead (buffer rows pairs : List ℕ) (π : Policy) : Type 0 where
  pub certified : Certified buffer rows π.statements
  pub paired : pairs_in pairs ≡ Ok π.pairs

-- The policy is such a one, the proof reads over it, and the table has where the second part of each 26 ends.
pub record CaseReads (IsPolicy : Policy → Type 0) (ends proof : List ℕ) (π : Policy) (N : Check) : Type 0 where
  pub policy : IsPolicy π
  pub proof_reads : proof_in (length π.statements) proof ≡ Some N
  pub told : ToldChecking ends N

-- The ledger and the list at the end are what the walk of the proof comes to, from the ledger at its start and an empty list.
abbrev pub Walked : Asked → (Policy → Type 0) → List ℕ → List ℕ → List ℕ → List Fact → Ledger → List Fact → Type 0
Walked asked IsPolicy proof state ends list l list' =
    (π : Policy) (N : Check) → list ≡ [] → CaseReads IsPolicy ends proof π N
    → Sound (book l list') × (resume state (book l list') (done (tt {0})) ≡ resume state (book (begun asked.reading) list) (walk asked.request π N))

-- The same of what is lent, where r is the ledger at the end: over pairs, and over the strengths that were found.
abbrev pub WalkedOver : Asked → Lent → Sources → ListLent → Ledger → Type 0
WalkedOver asked pairs lent facts r =
    Walked asked (PolicyRead lent.buffer.now lent.certificates.now pairs.entry.now) lent.proof.now lent.state.now lent.ends.now facts.entry.now r facts.exit.now

abbrev pub WalkedBy : Asked → Sources → ListLent → Ledger → Type 0
WalkedBy asked lent facts r =
    Walked asked (PolicyLent lent.buffer.now lent.certificates.now lent.strengths) lent.proof.now lent.state.now lent.ends.now facts.entry.now r facts.exit.now

-- What is tested of an outcome: it goes on with a value, or is refused with its answer.
abbrev pub Stops : {A : Type 0} → Outcome A → Outcome (Unit {0}) → Type 0
Stops {A} o (Ok tt) = (a : A) × (o ≡ Ok a)
Stops o (Err answer) = o ≡ Err answer

-- All are taken: r is what the records come to, and where they are granted, the rows are what they state.
pub record Taken (records : List Certificate) (buffer : List ℕ) (r : Outcome (Unit {0})) (rows : List ℕ) : Type 0 where
  pub stops : Stops (statements buffer records) r
  pub rows_are : (cs : List Statement) → statements buffer records ≡ Ok cs → Certified buffer rows cs

-- The case was read: r is what it comes to, and where nothing is malformed, it reads with the rows and the table.
pub record CaseRead (records : List Certificate) (buffer pairs proof rows ends : List ℕ) (r : Outcome (Unit {0})) : Type 0 where
  pub stops : Stops (read_case records buffer pairs proof) r
  pub reads : (x : Case) → read_case records buffer pairs proof ≡ Ok x → CaseReads (PolicyRead buffer rows pairs) ends proof x.0 x.1

-- What verify and the direct check come to for some records, over what is lent.
abbrev pub verified_over : Request → List Certificate → Lent → Lent → Lent → Outcome Procap
verified_over request records buffer pairs proof = verified request records buffer.entry.now pairs.entry.now proof.entry.now

abbrev pub directly_over : Request → List Certificate → Lent → Lent → Lent → ℕ → Lent → Outcome (Unit {0})
directly_over request records buffer pairs proof moment state =
    directly request records buffer.entry.now pairs.entry.now proof.entry.now moment state.entry.now

-- What is handed over is the outcome's answer and procap.
pub record HandsOver (o : Outcome Procap) (r : Verified) : Type 0 where
  pub answer : r.answer ≡ answer_of o
  pub procap : r.procap ≡ procap_handed o
