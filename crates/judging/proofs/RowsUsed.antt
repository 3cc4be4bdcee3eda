-- What is used of a row by a step 20 or 21: which assumption or certificate its index names, and what the walk makes of it.
use Prim.Native.Nat.{ℕ, zero, suc, ◌+◌, ◌-◌, ◌≤◌, ◌<◌}
use mathlib.Core.Path.{◌≡◌, refl, ◌∙◌}
use mathlib.Core.List.{List, [], ◌∷◌}
use Rattle.std.specs.Prelude.{Some, None}
use native.Mathlib.Omega.{arith}
use lib.ListN.{length, get_or}
use Rattle.procap.specs.Lists.{nth}
use Rattle.procap.specs.Bytes.{byte}
use Rattle.procap.proofs.ReadApart.{byte_at}
use Rattle.procap.specs.declared.fact.Fact.{Fact}
use Rattle.bl.specs.Certificates.{Statement}
use Rattle.bl.specs.Strength.{Pair}
use Rattle.bl.specs.Rules as rules
use Rattle.bl.specs.Rules.{Assumption, claim}
use Rattle.bl.specs.Questions.{◌>>=◌, need}
use Rattle.bl.specs.Walk.{assumed, need_view}
use Rattle.ledger.specs.declared.Ledger.{Ledger}
use Rattle.judging.specs.declared.rows.Row.{Row}
use Rattle.judging.specs.declared.judge.Inferred.{Inferred}
use Rattle.ledger.specs.Books.{Book, book, Sound, Gives, misfitted}
use Rattle.judging.specs.RowsOf.{row_in, RowIs, is_plain, is_claim, is_shut, Assumed, Certified, most_rows}
use Rattle.judging.specs.Judging.{use_local, use_certificate, Yields}
use Rattle.judging.proofs.Coming.{Comes, comes_with, comes_yields}
use Rattle.judging.proofs.JudgingLaws.{yields, yields_nothing}
use Rattle.judging.proofs.PartsTaken.{After}

-- ── The index ──

-- The byte after the tag at q, if one is read there, is the index.
pub index_is : (bytes : List ℕ) (q i e : ℕ) → byte bytes (q + 1) ≡ Some (i, e) → get_or bytes (q + 1) 0 ≡ i
index_is bytes q i e read = (byte_at bytes (q + 1) i e read).1

-- The place after it, as the code comes to it.
module _ (bytes : List ℕ) {q at i e : ℕ} (after : After bytes q at) (read : byte bytes (q + 1) ≡ Some (i, e)) where
  -- The byte stands where the code comes to, and the place after it is where the step ends.
  there : at ≡ q + 1
  there =
      let (inside, _, _) = byte_at bytes (q + 1) i e read in
      after (omega arith)

  next_is : {next : ℕ} → After bytes at next → next ≡ e
  next_is g =
      let (inside, _, end) = byte_at bytes (q + 1) i e read in
      let n = there in
      g (omega arith) ∙ rw n end

-- An index below the length of a list names an element of it.
nth_there : {A : Type 0} (xs : List A) (i : ℕ) → i < length xs → (x : A) × (nth xs i ≡ Some x)
unfolding nth
nth_there [] i l = absurd (omega arith)
nth_there (x ∷ xs) zero l = (x, refl)
nth_there (x ∷ xs) (suc i) l = nth_there xs i (omega arith)

-- The assumption i places before the latest, and its row.
record AssumedAt (buffer rows : List ℕ) (below n : ℕ) (Γ : List Assumption) (i : ℕ) : Type 0 where
  assumption : Assumption
  named : nth Γ i ≡ Some assumption
  row : RowIs buffer (row_in rows (n - i - 1)) (n - i - 1) below assumption

assumed_at : (buffer rows : List ℕ) (below n : ℕ) (Γ : List Assumption) (i : ℕ) → Assumed buffer rows below n Γ → i < n
    → AssumedAt buffer rows below n Γ i
unfolding Assumed nth
assumed_at buffer rows below zero Γ i a l = absurd (omega arith)
assumed_at buffer rows below (suc n) [] i a l = absurd a
assumed_at buffer rows below (suc n) (x ∷ Γ) zero a l =
    let e : suc n - 0 - 1 ≡ n = omega arith in
    record { assumption = x; named = refl; row = rw e a.0 }
assumed_at buffer rows below (suc n) (x ∷ Γ) (suc i) a l =
    let h = assumed_at buffer rows below n Γ i a.1 (omega arith) in
    let e : suc n - suc i - 1 ≡ n - i - 1 = omega arith in
    record { assumption = h.assumption; named = h.named; row = rw e h.row }

-- ── The row ──

module _ {state buffer : List ℕ} {list : List Fact} {l : Ledger} {row : Row} {index below next : ℕ} (ps : List Pair) (q : ℕ) (v : rules.View) (r : Inferred)
    (s : Sound (book l list)) where
  -- A plain row that is shut out, one that is not, and a claim.
  pub shut_row : {x : Assumption} → RowIs buffer row index below x → row.whose ≡ None → index < below → r.ledger ≡ misfitted l q
      → Yields state buffer (book l list) (assumed ps q v x) next r list
  unfolding assumed
  shut_row (is_plain e n o) p h f = absurd (n h)
  shut_row (is_claim e o) p h f = let z : ◌≡◌ {A = ℕ} 0 1 = cc in absurd (omega arith)
  shut_row (is_shut e i) p h f = yields_nothing r s refl f

  pub plain_row : {x : Assumption} → RowIs buffer row index below x → row.whose ≡ None → below ≤ index
      → r.ledger ≡ l → r.judgement ≡ row.judgement → r.next ≡ next → Yields state buffer (book l list) (assumed ps q v x) next r list
  unfolding assumed
  plain_row (is_plain e n o) p h f j m = yields r s refl f (rw j o) m
  plain_row (is_claim e o) p h f j m = let z : ◌≡◌ {A = ℕ} 0 1 = cc in absurd (omega arith)
  plain_row (is_shut e i) p h f j m = absurd (omega arith)

  pub claim_row : {x : Assumption} {k : ℕ} → RowIs buffer row index below x → row.whose ≡ Some k
      → Gives state (book l list) (need_view ps q v k row.judgement.from row.judgement.to) (book r.ledger list) tt → r.judgement ≡ row.judgement → r.next ≡ next
      → Yields state buffer (book l list) (assumed ps q v x) next r list
  unfolding assumed
  claim_row (is_plain e n o) p g j m = let z : ◌≡◌ {A = ℕ} 0 1 = cc in absurd (omega arith)
  claim_row {k = k} (is_claim {k = i} {A} {a} {b} e o) p g j m =
      let same : i ≡ k = cc in
      let viewed : Comes state (book l list) (need_view ps q v k a b) (book r.ledger list) (λ _. Unit {0}) =
      record { value = tt; gives = rw (o.from, o.to) at g; so = λ _. tt } in
      comes_yields state buffer (book l list) _ next r list
      (rw same (comes_with state (book l list) (book r.ledger list) (need_view ps q v k a b) viewed (A, a, b) (rw j o, m)))
  claim_row (is_shut e i) p g j m = let z : ◌≡◌ {A = ℕ} 0 1 = cc in absurd (omega arith)

-- ── The steps ──

module _ {state buffer : List ℕ} {list : List Fact} {b : Book} {r : Inferred} (ps : List Pair) (proof rows : List ℕ) (q at : ℕ) (v : rules.View) {e next below : ℕ}
    (after : After proof q at) (next_after : After proof at next) where
  -- 20: the assumption that the index names is used as it stands.
  pub local_used : (count index back : ℕ) (Γ : List Assumption) {i : ℕ} → index ≡ count - back - 1 → back ≡ get_or proof (q + 1) 0
      → ((x : Assumption) → index < most_rows → RowIs buffer (row_in rows index) index below x → Yields state buffer b (assumed ps q v x) next r list)
      → Assumed buffer rows below count Γ → count ≤ most_rows → byte proof (q + 1) ≡ Some (i, e) → i < count
      → Yields state buffer b (use_local ps q v Γ i) e r list
  unfolding use_local need ◌>>=◌
  local_used count index back Γ {i} k told used assumptions few read l =
      let named = assumed_at buffer rows below count Γ i assumptions l in
      let same : index ≡ count - i - 1 = rw (told ∙ index_is proof q i e read) at k in
      rw named.named (rw (next_is proof after read next_after) at (used named.assumption (omega arith) (rw same named.row)))

  -- 21: the certificate that the index names is used as a claim of its principal.
  pub certificate_used : (index : ℕ) {cs : List Statement} {i : ℕ} → index ≡ get_or proof (q + 1) 0
      → ((x : Assumption) → index < most_rows → RowIs buffer (row_in rows index) index below x → Yields state buffer b (assumed ps q v x) next r list)
      → Certified buffer rows cs → byte proof (q + 1) ≡ Some (i, e) → i < length cs
      → Yields state buffer b (use_certificate ps q v cs i) e r list
  unfolding use_certificate assumed need ◌>>=◌
  certificate_used index {cs} {i} told used certified read l =
      let (c, named) = nth_there cs i l in
      let row = certified.each i c named in
      let same : index ≡ i = told ∙ index_is proof q i e read in
      let few = certified.few in
      let claimed : RowIs buffer (row_in rows index) index below (claim c.by c.says c.from c.to) = rw same (is_claim row.whose row.on) in
      rw named (rw (next_is proof after read next_after) at (used _ (omega arith) claimed))
