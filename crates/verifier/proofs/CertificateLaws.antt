-- Laws of certificate records: what a well formed one says, which is the first malformed one of a list, and what the rows of all of them certify.
use Prim.Native.Nat.{ℕ, zero, suc, ◌+◌, ◌-◌, ◌≤◌, ◌<◌}
use mathlib.Core.Bool.{Bool, true, false, not, ◌&&◌, false≢true}
use mathlib.Core.Path.{◌≡◌, refl, sym, ap, ◌∙◌}
use mathlib.Core.List.{List, [], ◌∷◌}
use Rattle.std.proofs.lemmas.Option.{none-some}
use Rattle.std.specs.Prelude.{Err, None, Ok, Option, Some}
use native.Mathlib.Nat.{add-zero, zero-add, add-suc, suc-add}
use native.Mathlib.Omega.{arith}
use borrow.Author.Tests.{leb-true, le-leb, lt-leb, not-true, not-false}
use borrow.Author.Count.{below_more}
use lib.ListN.{length, get_or, take, drop}
use lib.Dec.{leb}
use Rattle.procap.specs.Lists.{nth}
use Rattle.procap.specs.Tells.{Tells}
use Rattle.procap.specs.Outcome.{Outcome, go_on}
use Rattle.procap.specs.declared.answer.Answer.{Answer}
use Rattle.procap.specs.declared.answer.Answer.TheVariants.{CertificateMalformed}
use Rattle.procap.proofs.Telling.{tells_by, picked}
use Rattle.procap.proofs.Granted.{same_grant, no_grant, went_on}
use Rattle.bl.specs.declared.Certificate.{Certificate}
use Rattle.bl.specs.Trees.{Formula}
use Rattle.bl.specs.Formulas.{most_formula_levels, formula_in}
use Rattle.bl.specs.Certificates.{Statement, most_certificates, most_part_bytes, fixed_time, part_of, formula_of, statement_by, statement_of, and_then, statements_from, statements}
use Rattle.formula.specs.PutIn.{terms_of, stack}
use Rattle.judging.specs.RowsOf.{row_in, Certifies, Certified}
use Rattle.verifier.specs.Verifying.{no_record, row_of, WellFormedRecord, Taken}
use Rattle.formula.proofs.Filling.{fill_nothing}
use Rattle.formula.proofs.Shifted.{formula_in_shifted}

-- ── One record ──

-- A conjunction that is true is so on both sides.
both_true : (s t : Bool) → (s && t) ≡ true → (s ≡ true) × (t ≡ true)
both_true true t e = (refl, e)
both_true false t e = absurd (false≢true e)

-- The formula of a part was found in it, and the statement of a record has its formula.
formula_found : {C : Type 0} (o : Option (List ℕ)) (A : Formula) → formula_of o ≡ Some A → ((part : List ℕ) → o ≡ Some part → formula_in part ≡ Some A → C) → C
unfolding formula_of
formula_found None A e k = absurd (none-some A e)
formula_found (Some part) A e k = k part refl e

-- The statement of a record with this formula.
abbrev stating : Certificate → Formula → Statement
stating c A = record { by = c.principal; says = A; from = c.from; to = c.to }

stating_found : {C : Type 0} (c : Certificate) (o : Option Formula) (s : Statement) → statement_by c o ≡ Some s
    → ((A : Formula) → o ≡ Some A → stating c A ≡ s → C) → C
unfolding statement_by
stating_found c None s e k = absurd (none-some s e)
stating_found c (Some A) s e k = k A refl (cc)

-- What makes a record well formed, with the formula that its part holds.
pub record Stands (buffer : List ℕ) (c : Certificate) (A : Formula) : Type 0 where
  pub from : fixed_time c.from ≡ true
  pub to : fixed_time c.to ≡ true
  pub inside : c.start + c.length ≤ length buffer
  pub short : c.length ≤ most_part_bytes
  pub reads : formula_in (take c.length (drop c.start buffer)) ≡ Some A

module _ (buffer : List ℕ) (c : Certificate) where
  -- A record that states something stands, and states its formula.
  stands_where : {C : Type 0} (s : Statement) → statement_of buffer c ≡ Some s → ((A : Formula) → Stands buffer c A → stating c A ≡ s → C) → C
  unfolding statement_of part_of
  stands_where s e k =
      picked (fixed_time c.from && fixed_time c.to) (statement_by c (formula_of (part_of buffer c))) None (Some s) (none-some s) e λ times e₁.
      stating_found c (formula_of (part_of buffer c)) s e₁ λ A e₂ says.
      formula_found (part_of buffer c) A e₂ λ part e₃ e₄.
      picked (leb (c.start + c.length) (length buffer) && leb c.length most_part_bytes) (Some (take c.length (drop c.start buffer))) None (Some part)
      (none-some part) e₃ λ places e₅.
      let ends = both_true _ _ times in
      let bounds = both_true (leb (c.start + c.length) (length buffer)) _ places in
      k A
      (record {
        from = ends.0;
        to = ends.1;
        inside = leb-true _ _ bounds.0;
        short = leb-true _ _ bounds.1;
        reads = cc;
      })
      says

  pub stands : WellFormedRecord buffer c → (A : Formula) × Stands buffer c A
  stands (s, e) = stands_where s e λ A h says. (A, h)

  -- A record that stands states its formula.
  states : (A : Formula) → Stands buffer c A → WellFormedRecord buffer c
  unfolding statement_of part_of formula_of statement_by
  states A h = (stating c A, rw (h.from, h.to, le-leb _ _ h.inside, le-leb _ _ h.short, h.reads))

  -- Where all else is as it should be, it is well formed if its part holds a formula.
  pub well_formed_by : (b : Bool) → fixed_time c.from ≡ true → fixed_time c.to ≡ true → c.start + c.length ≤ length buffer → c.length ≤ most_part_bytes
      → Tells b ((A : Formula) × (formula_in (take (c.start + c.length - c.start) (drop c.start buffer)) ≡ Some A)) → Tells b (WellFormedRecord buffer c)
  well_formed_by b from to inside short found =
      let size : c.start + c.length - c.start ≡ c.length = omega arith in
      tells_by b
      (λ (A, e). states A (record { from = from; to = to; inside = inside; short = short; reads = e }))
      (λ w. let (A, h) = stands w in (A, h.reads))
      (rw size at found)

-- A flag that was tested, and the definition that it follows.
module _ {b t : Bool} (e : b ≡ t) where
  pub refuted : not b ≡ true → t ≡ true → ⊥
  refuted n h = false≢true (sym (not-true b n) ∙ e ∙ h)

  pub agreed : not b ≡ false → t ≡ true
  agreed n = sym e ∙ not-false b n

-- ── Records in a row ──

-- One statement more: it and the others were granted, or the record or one of the others is malformed.
one_more : {C : Type 0} (i : ℕ) (o : Option Statement) (rest : Outcome (List Statement)) (ss : List Statement) → and_then i o rest ≡ Ok ss
    → ((s : Statement) (others : List Statement) → o ≡ Some s → rest ≡ Ok others → ss ≡ s ∷ others → C) → C
unfolding and_then
one_more i None rest ss e k = no_grant e
one_more i (Some s) rest ss e k = went_on rest (λ others. Ok (s ∷ others)) ss e λ others e₁ e₂. k s others refl e₁ (sym (same_grant e₂))

module _ (buffer : List ℕ) where
  -- Where all are well formed, all is granted.
  all_granted : (i : ℕ) (cs : List Certificate) → ((k : ℕ) → k < length cs → WellFormedRecord buffer (get_or cs k no_record))
      → (ss : List Statement) × (statements_from buffer i cs ≡ Ok ss)
  unfolding statements_from and_then go_on
  all_granted i [] h = ([], refl)
  all_granted i (c ∷ cs) h =
      let (s, e) = h 0 (omega arith) in
      let (ss, f) = all_granted (suc i) cs (λ k l. h (suc k) (omega arith)) in
      (s ∷ ss, rw (e, f) refl)

  -- The first malformed one refuses.
  first_refuses : (i n : ℕ) (cs : List Certificate) → n < length cs → ((k : ℕ) → k < n → WellFormedRecord buffer (get_or cs k no_record))
      → (WellFormedRecord buffer (get_or cs n no_record) → ⊥) → statements_from buffer i cs ≡ Err (CertificateMalformed (i + n))
  unfolding statements_from and_then go_on
  first_refuses i n [] l h bad = absurd (omega arith)
  first_refuses i zero (c ∷ cs) l h bad = rw add-zero (malformed (statement_of buffer c) bad)
    where
      malformed : (o : Option Statement) → ((s : Statement) × (o ≡ Some s) → ⊥)
          → and_then i o (statements_from buffer (suc i) cs) ≡ Err (CertificateMalformed i)
      malformed None n = refl
      malformed (Some s) n = absurd (n (s, refl))
  first_refuses i (suc n) (c ∷ cs) l h bad =
      let (s, e) = h 0 (omega arith) in
      rw (e, first_refuses (suc i) n cs (omega arith) (λ k l. h (suc k) (omega arith)) bad, add-suc, suc-add) refl

  -- Where all is granted, there is a statement for each record.
  record Each (cs : List Certificate) (ss : List Statement) : Type 0 where
    as_many : length ss ≡ length cs
    stated : (k : ℕ) (s : Statement) → nth ss k ≡ Some s → (k < length cs) × (statement_of buffer (get_or cs k no_record) ≡ Some s)

  -- With one more in front the first statement is its own, and the others are those of the others.
  stated_more : (c : Certificate) (cs : List Certificate) (s : Statement) (others : List Statement) → statement_of buffer c ≡ Some s → Each cs others
      → (k : ℕ) (t : Statement) → nth (s ∷ others) k ≡ Some t → (k < length (c ∷ cs)) × (statement_of buffer (get_or (c ∷ cs) k no_record) ≡ Some t)
  unfolding nth
  stated_more c cs s others e rest zero t h = (omega arith, e ∙ h)
  stated_more c cs s others e rest (suc k) t h = let r = rest.stated k t h in (omega arith, r.1)

  each_granted : (i : ℕ) (cs : List Certificate) (ss : List Statement) → statements_from buffer i cs ≡ Ok ss → Each cs ss
  unfolding statements_from nth
  each_granted i [] ss e = rw (← same_grant e) (record { as_many = refl; stated = λ k s h. absurd (none-some s h) })
  each_granted i (c ∷ cs) ss e =
      one_more i (statement_of buffer c) (statements_from buffer (suc i) cs) ss e λ s others e₁ e₂ f.
      let rest = each_granted (suc i) cs others e₂ in
      rw f
      (record {
        as_many = ap suc rest.as_many;
        stated = stated_more c cs s others e₁ rest;
      })

-- ── The records that are lent ──

module _ (buffer : List ℕ) (records : List Certificate) where
  -- Too many are refused.
  many_refused : most_certificates < length records → statements buffer records ≡ Err (CertificateMalformed 0)
  unfolding statements
  many_refused many = rw (lt-leb (length records) most_certificates many)

  module _ (few : length records ≤ most_certificates) where
    -- Few are read in a row.
    few_read : statements buffer records ≡ statements_from buffer 0 records
    unfolding statements
    few_read = rw (le-leb (length records) most_certificates few)

    -- All of them are granted where none is malformed.
    none_malformed : ((k : ℕ) → k < length records → WellFormedRecord buffer (get_or records k no_record))
        → (ss : List Statement) × (statements buffer records ≡ Ok ss)
    none_malformed h = let (ss, e) = all_granted buffer 0 records h in (ss, few_read ∙ e)

    -- The first malformed one is refused.
    malformed_at : (n : ℕ) → n < length records → ((k : ℕ) → k < n → WellFormedRecord buffer (get_or records k no_record))
        → (WellFormedRecord buffer (get_or records n no_record) → ⊥) → statements buffer records ≡ Err (CertificateMalformed n)
    malformed_at n l h bad = few_read ∙ first_refuses buffer 0 n records l h bad ∙ ap (λ k. Err (CertificateMalformed k)) (zero-add n)

-- ── The rows of the records ──

-- The row of a record that stands certifies what it states.
row_certifies : (buffer : List ℕ) (c : Certificate) (s : Statement) → statement_of buffer c ≡ Some s → Certifies buffer (row_of c) s
unfolding terms_of stack
row_certifies buffer c s e =
    stands_where buffer c s e λ A h says.
    rw (← says)
    (record {
      whose = refl;
      on = record {
        means = record {
          level = most_formula_levels;
          low = omega arith;
          sorts = [];
          as_many = refl;
          few = record { few = omega arith; room = refl };
          tree = A;
          end = c.start + c.length;
          reads = formula_in_shifted buffer c.start c.length h.inside A h.reads;
          filled = fill_nothing 0 A;
        };
        from = refl;
        to = refl;
      };
    })

-- What is granted has few records, and is read in a row.
granted_few : {C : Type 0} (buffer : List ℕ) (cs : List Certificate) (ss : List Statement) → statements buffer cs ≡ Ok ss
    → (length cs ≤ most_certificates → statements_from buffer 0 cs ≡ Ok ss → C) → C
unfolding statements
granted_few buffer cs ss e k =
    picked (leb (length cs) most_certificates) (statements_from buffer 0 cs) (Err (CertificateMalformed 0)) (Ok ss) no_grant e λ l f.
    k (leb-true _ _ l) f

-- There are as many statements as records.
pub statements_count : (buffer : List ℕ) (cs : List Certificate) (ss : List Statement) → statements buffer cs ≡ Ok ss → length ss ≡ length cs
statements_count buffer cs ss e = granted_few buffer cs ss e λ few e₁. (each_granted buffer 0 cs ss e₁).as_many

-- ── Taking them ──

-- The records before the i-th are taken: there are not too many in all, each is well formed, and its row is put.
pub record TakenTo (records : List Certificate) (buffer : List ℕ) (i : ℕ) (rows : List ℕ) : Type 0 where
  pub few : length records ≤ most_certificates
  pub well_formed : (k : ℕ) → k < i → WellFormedRecord buffer (get_or records k no_record)
  pub put : (k : ℕ) → k < i → row_in rows k ≡ row_of (get_or records k no_record)

module _ (records : List Certificate) (buffer : List ℕ) (rows : List ℕ) where
  -- None is taken yet.
  pub none_taken : length records ≤ most_certificates → TakenTo records buffer 0 rows
  none_taken few = record { few = few; well_formed = λ k h. absurd (omega arith); put = λ k h. absurd (omega arith) }

  module _ (i : ℕ) (l : i < length records) (h : TakenTo records buffer i rows) where
    -- A malformed record refuses them.
    pub taken_malformed : (WellFormedRecord buffer (get_or records i no_record) → ⊥) → statements buffer records ≡ Err (CertificateMalformed i)
    taken_malformed bad = malformed_at buffer records h.few i l h.well_formed bad

    -- A well formed one is taken, once its row is put.
    pub one_taken : {after : List ℕ} → WellFormedRecord buffer (get_or records i no_record)
        → row_in after i ≡ row_of (get_or records i no_record) → ((k : ℕ) → (k ≡ i → ⊥) → row_in after k ≡ row_in rows k)
        → TakenTo records buffer (i + 1) after
    one_taken w there others = record {
      few = h.few;
      well_formed = below_more _ i h.well_formed w;
      put = below_more _ i (λ k b. others k (omega arith) ∙ h.put k b) there;
    }

-- The rows of records that are granted are what they state.
rows_certified : (records : List Certificate) (buffer rows : List ℕ) → TakenTo records buffer (length records) rows
    → (ss : List Statement) → statements buffer records ≡ Ok ss → Certified buffer rows ss
rows_certified records buffer rows h ss e =
    granted_few buffer records ss e λ few e₁.
    let all = each_granted buffer 0 records ss e₁ in
    record {
      few = omega (arith, all.as_many, h.few);
      each = λ k s there.
          let (inside, states) = all.stated k s there in
          rw (h.put k inside) (row_certifies buffer (get_or records k no_record) s states);
    }

module _ (records : List Certificate) (buffer rows : List ℕ) where
  -- Once all are taken, the rows are what they state.
  pub all_taken : TakenTo records buffer (length records) rows → Taken records buffer (Ok tt) rows
  all_taken h = record { stops = none_malformed buffer records h.few h.well_formed; rows_are = rows_certified records buffer rows h }

  -- Where they are refused, no rows are asked for,
  pub none_stated : (answer : Answer) → statements buffer records ≡ Err answer → Taken records buffer (Err answer) rows
  none_stated answer h = record { stops = h; rows_are = λ ss e. no_grant (sym h ∙ e) }

  -- as where they are too many.
  pub too_many : most_certificates < length records → Taken records buffer (Err (CertificateMalformed 0)) rows
  too_many many = none_stated (CertificateMalformed 0) (many_refused buffer records many)
