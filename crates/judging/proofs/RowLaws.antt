-- Laws of rows: numbers stored one after another stand where they were stored and leave the others, a row goes by its own 16 numbers, and
-- the numbers that a row is put as are read back as that row.
use Rattle.std.specs.Prelude.{None, Option, Some}
use Prim.Native.Nat.{ℕ, zero, suc, ◌+◌, ◌*◌, ◌≤◌, ◌<◌}
use mathlib.Core.Bool.{Bool, true, false}
use mathlib.Core.Path.{◌≡◌, refl, sym, ap, ap₂, ◌∙◌}
use mathlib.Core.List.{List, [], ◌∷◌, ◌++◌}
use native.Mathlib.Nat.{add-zero, zero-add, add-suc, suc-add, add_assoc}
use native.Mathlib.Numerals.{add-one, towards_suc}
use native.Mathlib.Omega.{arith}
use borrow.Author.Tests.{eq-eqb, ne_eqb, lt-ltb, le-ltb}
use borrow.Author.Count.{below_more}
use lib.ListN.{length, get_or, take, set, length-set}
use lib.Seq.{sets, length-sets, get_or-set_same, get_or-set_other, get_or-append-add, length-take-le, take-suc, ext_get_or}
use lib.Dec.{ltb, eqb}
use Rattle.procap.specs.Tells.{pick}
use Rattle.procap.specs.Numbered.{time_of}
use Rattle.procap.proofs.Numbered.{time_back}
use Rattle.judging.proofs.Stored.{sets_after}
use Rattle.judging.specs.declared.rows.Row.{Row}
use Rattle.judging.specs.declared.rows.RowNumbers.{RowNumbers}
use Rattle.formula.specs.PutIn.{terms_numbers}
use Rattle.formula.specs.PartPromises.{front_on_ctime}
use Rattle.judging.specs.RowsOf.{numbers_in, whose_in, two_in, numbers_from, numbers_at, row_of, row_from, row_in, most_rows, row_numbers, all_numbers}
use Rattle.formula.specs.Numbers.{numbers_of_judgement}
use Rattle.judging.specs.RowNumbers.{whose_kind, whose_value, numbers_of_row, in_order, rows_put, rows_with}

-- ── Numbers stored one after another ──

-- One number more of a list.
pub sets_more : (l : List ℕ) (at : ℕ) (xs : List ℕ) (i : ℕ) → i < length xs → set (sets l at (take i xs)) (at + i) (get_or xs i 0) ≡ sets l at (take (i + 1) xs)
sets_more l at xs i inside =
    let n = length-take-le i xs (omega arith) in
    let one : take (i + 1) xs ≡ take i xs ++ (get_or xs i 0 ∷ []) = rw add-one (take-suc xs i 0 inside) in
    ap (λ k. set (sets l at (take i xs)) (at + k) (get_or xs i 0)) (sym n)
    ∙ sets_after l at (take i xs) (get_or xs i 0 ∷ [])
    ∙ ap (λ ys. sets l at ys) (sym one)

-- What stands before or after them stays.
stays : (l : List ℕ) (at : ℕ) (xs : List ℕ) (j : ℕ) → (at ≤ j → at + length xs ≤ j) → get_or (sets l at xs) j 0 ≡ get_or l j 0
stays l at [] j outside = refl
stays l at (x ∷ xs) j outside =
    stays (set l at x) (suc at) xs j (λ m. let b = outside (omega arith) in omega arith)
    ∙ get_or-set_other l at j x 0 (λ e. let b = outside (omega arith) in omega arith)

-- They stand where they were stored.
stands : (l : List ℕ) (at : ℕ) (xs : List ℕ) (k : ℕ) → at + length xs ≤ length l → k < length xs → get_or (sets l at xs) (at + k) 0 ≡ get_or xs k 0
stands l at [] k room inside = absurd (omega arith)
stands l at (x ∷ xs) zero room inside =
    rw add-zero (stays (set l at x) (suc at) xs at (λ m. absurd (omega arith)) ∙ get_or-set_same l at x 0 (omega arith))
stands l at (x ∷ xs) (suc k) room inside =
    rw (add-suc, ← suc-add) (stands (set l at x) (suc at) xs k (rw length-set (omega arith)) (omega arith))

-- ── A row goes by its own numbers ──

-- So many numbers from a place on, said by indices.
numbers_in_length : (rows : List ℕ) (at n : ℕ) → length (numbers_in rows at n) ≡ n
unfolding numbers_in
numbers_in_length rows at zero = refl
numbers_in_length rows at (suc n) = ap suc (numbers_in_length rows (at + 1) n)

numbers_in_at : (rows : List ℕ) (at n k : ℕ) → k < n → get_or (numbers_in rows at n) k 0 ≡ get_or rows (at + k) 0
unfolding numbers_in
numbers_in_at rows at zero k inside = absurd (omega arith)
numbers_in_at rows at (suc n) zero inside = rw add-zero
numbers_in_at rows at (suc n) (suc k) inside =
    numbers_in_at rows (at + 1) n k (omega arith) ∙ ap (λ j. get_or rows j 0) (omega arith)

numbers_are : (xs rows : List ℕ) (at n : ℕ) → length xs ≡ n → ((k : ℕ) → k < n → get_or xs k 0 ≡ get_or rows (at + k) 0) → xs ≡ numbers_in rows at n
numbers_are xs rows at n e same =
    ext_get_or 0 xs (numbers_in rows at n)
    (e ∙ sym (numbers_in_length rows at n))
    (λ k inside. same k (omega arith) ∙ sym (numbers_in_at rows at n k (omega arith)))

-- The first i numbers from a place on are copied into an array of n.
pub record Copied (rows : List ℕ) (at n : ℕ) (numbers : List ℕ) (i : ℕ) : Type 0 where
  pub room : length numbers ≡ n
  pub same : (k : ℕ) → k < i → get_or numbers k 0 ≡ get_or rows (at + k) 0

module _ (rows : List ℕ) (at : ℕ) {n : ℕ} {numbers : List ℕ} where
  pub none_copied : length numbers ≡ n → Copied rows at n numbers 0
  none_copied e = record { room = e; same = λ k inside. absurd (omega arith) }

  pub one_copied : {i v : ℕ} → i < n → v ≡ get_or rows (at + i) 0 → Copied rows at n numbers i → Copied rows at n (set numbers i v) (i + 1)
  one_copied {i} {v} inside e c = record {
    room = rw length-set c.room;
    same =
        below_more (λ k. get_or (set numbers i v) k 0 ≡ get_or rows (at + k) 0) i
        (λ k l. get_or-set_other numbers i k v 0 (λ e. omega arith) ∙ c.same k l)
        (get_or-set_same numbers i v 0 (omega (arith, c.room)) ∙ e);
  }

  pub all_copied : {i : ℕ} → n ≤ i → Copied rows at n numbers i → numbers ≡ numbers_in rows at n
  all_copied all c = numbers_are numbers rows at n c.room (λ k inside. c.same k (omega arith))

-- From two places on the same n numbers stand.
abbrev Alike : ℕ → List ℕ → ℕ → List ℕ → ℕ → Type 0
Alike n xs s ys t = (k : ℕ) → k < n → get_or xs (s + k) 0 ≡ get_or ys (t + k) 0

module _ (xs ys : List ℕ) (s t : ℕ) where
  first_alike : Alike 2 xs s ys t → get_or xs s 0 ≡ get_or ys t 0
  first_alike same = simp add-zero at (same 0 (omega arith))

  -- What two and what n numbers stand for.
  whose_alike : Alike 2 xs s ys t → whose_in xs s ≡ whose_in ys t
  unfolding whose_in
  whose_alike same =
      ap₂ (λ (a b : ℕ). pick (eqb a 0) None (Some b)) (first_alike same) (same 1 (omega arith))

  time_alike : Alike 2 xs s ys t → two_in xs s ≡ two_in ys t
  time_alike same = λ d. record { kind = first_alike same d; second = same 1 (omega arith) d }

  numbers_alike : (n : ℕ) → Alike n xs s ys t → numbers_in xs s n ≡ numbers_in ys t n
  numbers_alike n same =
      numbers_are (numbers_in xs s n) ys t n (numbers_in_length xs s n) (λ k inside. numbers_in_at xs s n k inside ∙ same k inside)

  -- From further places on.
  further : (n m j : ℕ) → m + j ≤ n → Alike n xs s ys t → Alike j xs (s + m) ys (t + m)
  further n m j fits same k inside = simp add_assoc (same (m + k) (omega arith))

rows_alike : (xs ys : List ℕ) (i j : ℕ) → Alike row_numbers xs (i * row_numbers) ys (j * row_numbers) → numbers_from xs i ≡ numbers_from ys j
unfolding numbers_from
rows_alike xs ys i j same =
    let s = i * row_numbers in
    let t = j * row_numbers in
    let part : (m n : ℕ) → m + n ≤ row_numbers → Alike n xs (s + m) ys (t + m) = λ m n fits. further xs ys s t row_numbers m n fits same in
    λ d. record {
      whose = whose_alike xs ys s t (λ k inside. same k (omega arith)) d;
      judgement = record {
        formula = record {
          at = same 6 (omega arith) d;
          terms = record {
            count = same 7 (omega arith) d;
            numbers = numbers_alike xs ys (s + 8) (t + 8) terms_numbers (part 8 terms_numbers (omega arith)) d;
          };
        };
        from = time_alike xs ys (s + 2) (t + 2) (part 2 2 (omega arith)) d;
        to = time_alike xs ys (s + 4) (t + 4) (part 4 2 (omega arith)) d;
      };
    }

-- Whose a row is, by its first number.
module _ (rows : List ℕ) (at : ℕ) {kind : ℕ} (e : kind ≡ get_or rows at 0) where
  pub whose_plain : kind ≡ 0 → None ≡ whose_in rows at
  unfolding whose_in
  whose_plain z = rw (← e, z)

  pub whose_claimed : {value : ℕ} → (kind ≡ 0 → ⊥) → value ≡ get_or rows (at + 1) 0 → Some value ≡ whose_in rows at
  unfolding whose_in
  whose_claimed other f = rw (← e, ne_eqb kind 0 other, ← f)

-- All rows are there, or not: so of a row's numbers,
module _ (rows : List ℕ) (i : ℕ) where
  pub numbers_whole : length rows ≡ all_numbers → numbers_at rows i ≡ numbers_from rows i
  unfolding numbers_at
  numbers_whole all = rw (eq-eqb (length rows) all_numbers all)

  pub numbers_of_none : (length rows ≡ all_numbers → ⊥) → numbers_at rows i ≡ record { whose = None; judgement = numbers_of_judgement front_on_ctime }
  unfolding numbers_at
  numbers_of_none apart = rw (ne_eqb (length rows) all_numbers apart)

  -- and of the row that they stand for.
  pub row_whole : length rows ≡ all_numbers → row_in rows i ≡ row_from rows i
  unfolding row_in row_from
  row_whole all = ap row_of (numbers_whole all)

  pub row_of_none : (length rows ≡ all_numbers → ⊥) → row_in rows i ≡ record { whose = None; judgement = front_on_ctime }
  unfolding row_in time_of
  row_of_none apart = ap row_of (numbers_of_none apart)

-- In rows of as many numbers, a row that is the same in its own is the same.
same_row : (xs ys : List ℕ) (i : ℕ) → length xs ≡ length ys → numbers_from xs i ≡ numbers_from ys i → numbers_at xs i ≡ numbers_at ys i
unfolding numbers_at
same_row xs ys i n same = rw (n, same)

-- A row is what its numbers stand for, and a row's numbers stand for it.
pub row_by_numbers : (rows : List ℕ) (i : ℕ) → row_in rows i ≡ row_of (numbers_at rows i)
unfolding row_in
row_by_numbers rows i = refl

pub row_again : (row : Row) → row_of (numbers_of_row row) ≡ row
row_again row = λ d. record {
  whose = row.whose;
  judgement = record { formula = row.judgement.formula; from = time_back row.judgement.from d; to = time_back row.judgement.to d };
}

-- So where its numbers stay, a row does.
pub row_stays : (rows after : List ℕ) (i : ℕ) → numbers_at after i ≡ numbers_at rows i → row_in after i ≡ row_in rows i
row_stays rows after i same = row_by_numbers after i ∙ ap row_of same ∙ sym (row_by_numbers rows i)

-- ── A row that is put ──

-- Its parts put one after another are all of them.
pub row_put : (before : List ℕ) (start : ℕ) {first second third fourth after : List ℕ} {k₁ v₁ : ℕ} (row : RowNumbers)
    → k₁ ≡ whose_kind row.whose → v₁ ≡ whose_value row.whose → first ≡ sets before start (k₁ ∷ v₁ ∷ [])
    → second ≡ sets first (start + 2) (row.judgement.from.kind ∷ row.judgement.from.second ∷ [])
    → third ≡ sets second (start + 4) (row.judgement.to.kind ∷ row.judgement.to.second ∷ [])
    → fourth ≡ sets third (start + 6) (row.judgement.formula.at ∷ row.judgement.formula.terms.count ∷ [])
    → after ≡ sets fourth (start + 8) row.judgement.formula.terms.numbers
    → after ≡ sets before start (in_order row)
row_put before start row a b one two three four five = rw (five, four, three, two, one, a, b) (simp towards_suc)

-- Each part is read back.
whose_back : (w : Option ℕ) → pick (eqb (whose_kind w) 0) None (Some (whose_value w)) ≡ w
whose_back None = refl
whose_back (Some k) = refl

row_back : (row : RowNumbers) → length row.judgement.formula.terms.numbers ≡ terms_numbers → numbers_from (in_order row) 0 ≡ row
unfolding numbers_from whose_in
row_back row e = λ d. record {
  whose = whose_back row.whose d;
  judgement = record {
    formula = record {
      at = row.judgement.formula.at;
      terms = record { count = row.judgement.formula.terms.count; numbers = sym numbers_back d };
    };
    from = row.judgement.from;
    to = row.judgement.to;
  };
}
  where
    numbers : List ℕ
    numbers = row.judgement.formula.terms.numbers

    numbers_back : numbers ≡ numbers_in (in_order row) 8 terms_numbers
    numbers_back = numbers_are numbers (in_order row) 8 terms_numbers e (λ k inside. sym (get_or-append-add (take 8 (in_order row)) numbers k 0))

-- The rows with a row put among them, by cases of whether they are all there and have such an index.
module _ (rows : List ℕ) (index : ℕ) (row : RowNumbers) where
  pub not_all_there : (length rows ≡ all_numbers → ⊥) → rows ≡ rows_put rows index row
  unfolding rows_put
  not_all_there apart = rw (ne_eqb (length rows) all_numbers apart)

  module _ (all : length rows ≡ all_numbers) where
    pub no_such_row : most_rows ≤ index → rows ≡ rows_put rows index row
    unfolding rows_put
    no_such_row above = rw (eq-eqb (length rows) all_numbers all, le-ltb index most_rows above)

    pub put_there : index < most_rows → rows_put rows index row ≡ sets rows (index * row_numbers) (in_order row)
    unfolding rows_put
    put_there below = rw (eq-eqb (length rows) all_numbers all, lt-ltb index most_rows below)

-- What is so of the rows as they were and of those with the numbers of a row stored is so of the rows with the row.
with_either : (P : List ℕ → Type 0) (rows : List ℕ) (index : ℕ) (row : RowNumbers)
    → P rows → P (sets rows (index * row_numbers) (in_order row)) → P (rows_put rows index row)
unfolding rows_put
with_either P rows index row same put = either (eqb (length rows) all_numbers) (either (ltb index most_rows) put same) same
  where
    either : (b : Bool) {xs ys : List ℕ} → P xs → P ys → P (pick b xs ys)
    either true p q = p
    either false p q = q

module _ (rows : List ℕ) (index : ℕ) (row : RowNumbers) {after : List ℕ} (put : after ≡ rows_put rows index row) where
  -- The row's numbers stand there, where all rows are there and it is one of theirs, and it has all its numbers.
  pub numbers_there : length rows ≡ all_numbers → index < most_rows → length row.judgement.formula.terms.numbers ≡ terms_numbers → numbers_at after index ≡ row
  numbers_there all below full =
      numbers_whole after index (ap length (put ∙ put_there rows index row all below) ∙ length-sets rows (index * row_numbers) (in_order row) ∙ all)
      ∙ rows_alike after (in_order row) index 0
      (λ k inside. rw (put ∙ put_there rows index row all below, zero-add) (stands rows (index * row_numbers) (in_order row) k (omega arith) (omega arith)))
      ∙ row_back row full

  -- So the row does that they stand for.
  pub row_of_there : length rows ≡ all_numbers → index < most_rows → length row.judgement.formula.terms.numbers ≡ terms_numbers → row_in after index ≡ row_of row
  row_of_there all below full = row_by_numbers after index ∙ ap row_of (numbers_there all below full)

  -- Those of a row stay that none of its numbers are stored in,
  stays_outside : (i : ℕ) → ((k : ℕ) → k < row_numbers → index * row_numbers ≤ i * row_numbers + k → index * row_numbers + length (in_order row) ≤ i * row_numbers + k)
      → numbers_at after i ≡ numbers_at rows i
  stays_outside i outside =
      rw put
      (with_either (λ after. numbers_at after i ≡ numbers_at rows i) rows index row refl
      (same_row (sets rows (index * row_numbers) (in_order row)) rows i (length-sets rows (index * row_numbers) (in_order row))
      (rows_alike (sets rows (index * row_numbers) (in_order row)) rows i i
      (λ k inside. stays rows (index * row_numbers) (in_order row) (i * row_numbers + k) (outside k inside)))))

  -- as those of each before it do, and, where it has all its numbers, of every other.
  pub earlier_numbers_stay : (i : ℕ) → i < index → numbers_at after i ≡ numbers_at rows i
  earlier_numbers_stay i before = stays_outside i (λ k inside l. absurd (omega arith))

  pub other_numbers_stay : length row.judgement.formula.terms.numbers ≡ terms_numbers → (i : ℕ) → (i ≡ index → ⊥) → numbers_at after i ≡ numbers_at rows i
  other_numbers_stay full i other = stays_outside i (λ k inside l. omega arith)

-- The same of a row on two times.
module _ (rows : List ℕ) (index : ℕ) (row : Row) {after : List ℕ} (put : after ≡ rows_with rows index row) where
  pub row_there : length rows ≡ all_numbers → index < most_rows → length row.judgement.formula.terms.numbers ≡ terms_numbers → row_in after index ≡ row
  row_there all below full = row_of_there rows index (numbers_of_row row) put all below full ∙ row_again row

  pub earlier_stay : (i : ℕ) → i < index → row_in after i ≡ row_in rows i
  earlier_stay i before = row_stays rows after i (earlier_numbers_stay rows index (numbers_of_row row) put i before)

  pub others_stay : length row.judgement.formula.terms.numbers ≡ terms_numbers → (i : ℕ) → (i ≡ index → ⊥) → row_in after i ≡ row_in rows i
  others_stay full i other = row_stays rows after i (other_numbers_stay rows index (numbers_of_row row) put full i other)
