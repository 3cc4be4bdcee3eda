-- Rows of numbers, and the assumptions and certificates that they stand for.
use Rattle.std.specs.Prelude.{ℕ, zero, suc, ◌+◌, ◌*◌, ◌≤◌, ◌<◌, ◌≡◌, List, [], ◌∷◌, length, get_or, eqb, Some, None, Option}
use Rattle.procap.specs.Lists.{nth}
use Rattle.procap.specs.Tells.{pick}
use Rattle.procap.specs.declared.time.Time.{Time}
use Rattle.procap.specs.Numbered.{time_of}
use Rattle.bl.specs.Trees.{Formula}
use Rattle.bl.specs.Rules.{Assumption, plain, claim, shut}
use Rattle.bl.specs.Certificates.{Statement, most_certificates}
use Rattle.procap.specs.declared.time.TimeNumbers.{TimeNumbers}
use Rattle.formula.specs.Numbers.{judgement_of, numbers_of_judgement}
use Rattle.judging.specs.declared.rows.Row.{Row}
use Rattle.judging.specs.declared.rows.RowNumbers.{RowNumbers}
use Rattle.formula.specs.PutIn.{terms_numbers}
use Rattle.formula.specs.Meaning.{On}
use Rattle.formula.specs.PartPromises.{front_on_ctime}

-- How many rows there are at the most.
abbrev pub most_rows : ℕ
most_rows = 32

-- How many numbers a row takes: two for whose it is, two for each end of its interval, its place, its count of terms, and their numbers.
abbrev pub row_numbers : ℕ
row_numbers = 16

-- How many numbers all rows take.
abbrev pub all_numbers : ℕ
all_numbers = 512

-- So many numbers of the rows.
unfoldable pub numbers_in : List ℕ → ℕ → ℕ → List ℕ
numbers_in rows at zero = []
numbers_in rows at (suc n) = get_or rows at 0 ∷ numbers_in rows (at + 1) n

-- The time that two numbers of the rows stand for.
abbrev pub time_in : List ℕ → ℕ → Time
time_in rows at = time_of (get_or rows at 0) (get_or rows (at + 1) 0)

-- Whose a row is.
unfoldable pub whose_in : List ℕ → ℕ → Option ℕ
whose_in rows at = pick (eqb (get_or rows at 0) 0) None (Some (get_or rows (at + 1) 0))

-- The same two as they stand.
abbrev pub two_in : List ℕ → ℕ → TimeNumbers
two_in rows at = record { kind = get_or rows at 0; second = get_or rows (at + 1) 0 }

-- The row that sixteen numbers are, by its index, with its times in numbers.
unfoldable pub numbers_from : List ℕ → ℕ → RowNumbers
numbers_from rows i =
    let start = i * row_numbers in
    record {
      whose = whose_in rows start;
      judgement = record {
        formula = record {
          at = get_or rows (start + 6) 0;
          terms = record { count = get_or rows (start + 7) 0; numbers = numbers_in rows (start + 8) terms_numbers };
        };
        from = two_in rows (start + 2);
        to = two_in rows (start + 4);
      };
    }

-- The same at an index, where all rows are there; else a plain one that says nothing.
unfoldable pub numbers_at : List ℕ → ℕ → RowNumbers
numbers_at rows i =
    pick (eqb (length rows) all_numbers) (numbers_from rows i) (record { whose = None; judgement = numbers_of_judgement front_on_ctime })

-- The row on the times that its numbers stand for.
abbrev pub row_of : RowNumbers → Row
row_of row = record { whose = row.whose; judgement = judgement_of row.judgement }

-- So are the row that sixteen numbers are, and the row at an index.
unfoldable pub row_from : List ℕ → ℕ → Row
row_from rows i = row_of (numbers_from rows i)

unfoldable pub row_in : List ℕ → ℕ → Row
row_in rows i = row_of (numbers_at rows i)

-- The row of an index is an assumption, where the plain ones below `below` are shut out.
pub data RowIs (buffer : List ℕ) (row : Row) (index below : ℕ) : Assumption → Type 0 where
  is_plain : {A : Formula} {a b : Time} → row.whose ≡ None → (index < below → ⊥) → On buffer row.judgement A a b → RowIs buffer row index below (plain A a b)
  is_claim : {k : ℕ} {A : Formula} {a b : Time} → row.whose ≡ Some k → On buffer row.judgement A a b → RowIs buffer row index below (claim k A a b)
  is_shut : row.whose ≡ None → index < below → RowIs buffer row index below shut

-- The first n rows are the assumptions Γ, the last row the latest.
unfoldable pub Assumed : List ℕ → List ℕ → ℕ → ℕ → List Assumption → Type 0
Assumed buffer rows below zero [] = Unit {0}
Assumed buffer rows below zero (x ∷ Γ) = ⊥
Assumed buffer rows below (suc n) [] = ⊥
Assumed buffer rows below (suc n) (x ∷ Γ) = RowIs buffer (row_in rows n) n below x × Assumed buffer rows below n Γ

-- A row is what a certificate says: a claim of its principal.
pub record Certifies (buffer : List ℕ) (row : Row) (s : Statement) : Type 0 where
  pub whose : row.whose ≡ Some s.by
  pub on : On buffer row.judgement s.says s.from s.to

-- The rows are the certificates, in order.
pub record Certified (buffer rows : List ℕ) (cs : List Statement) : Type 0 where
  pub few : length cs ≤ most_certificates
  pub each : (i : ℕ) (s : Statement) → nth cs i ≡ Some s → Certifies buffer (row_in rows i) s
