-- A row is two words: its marks are bits of the one or of the other, and rows are put and taken one after another.
use Prim.Native.Nat.{ℕ, zero, suc, ◌+◌, ◌-◌, ◌*◌, ◌/◌, ◌%◌, ◌^◌, ◌≤◌, ◌<◌}
use mathlib.Core.Path.{◌≡◌, refl, sym, ap, ◌∙◌}
use mathlib.Core.List.{List, [], ◌∷◌, ◌++◌, append_assoc}
use mathlib.Core.Logic.{◌↔◌}
use native.Mathlib.Omega.{arith}
use native.Mathlib.Decide.{dec_lt}
use native.Mathlib.Numerals.{add-one}
use lib.ListN.{length, get_or, take, set, length-set}
use lib.Seq.{take-suc}
use Rattle.std.specs.Int.{bit_at}
use Rattle.std.proofs.lemmas.Nat.Bits.{bit_at_cat_low, bit_at_cat_high}
use Rattle.std.proofs.lemmas.List.{take_more_set}
use Rattle.strength.specs.Marks.{Bit}
use Rattle.strength.specs.InNumbers.{words}
use Rattle.strength.specs.Marks as table
use Rattle.strength.specs.InNumbers as numbered

-- The words of a row, by their index.
abbrev two : ℕ → ℕ → ℕ
two row h = get_or (row % 2 ^ 64 ∷ row / 2 ^ 64 ∷ []) h 0

word_at : (rows : List ℕ) (x h : ℕ) → h < 2 → get_or (words rows) (x * 2 + h) 0 ≡ two (get_or rows x 0) h
word_at [] x zero l = refl
word_at [] x (suc zero) l = refl
word_at [] x (suc (suc h)) l = absurd (omega arith)
word_at (row ∷ rows) zero zero l = refl
word_at (row ∷ rows) zero (suc zero) l = refl
word_at (row ∷ rows) zero (suc (suc h)) l = absurd (omega arith)
word_at (row ∷ rows) (suc x) h l = let e : suc x * 2 + h ≡ suc (suc (x * 2 + h)) = omega arith in rw e (word_at rows x h l)

-- A bit of a row is one of its words.
bit_in : (row y : ℕ) → y < 128 → bit_at (two row (y / 64)) (y % 64) ≡ bit_at row y
bit_in row y l = elim (dec_lt y 64) [ yes b ↦ low b | no n ↦ high (omega arith) ]
  where
    parts : row / 2 ^ 64 * 2 ^ 64 + row % 2 ^ 64 ≡ row
    parts = omega arith

    low : y < 64 → bit_at (two row (y / 64)) (y % 64) ≡ bit_at row y
    low b =
        let e : y / 64 ≡ 0 = omega arith in
        let f : y % 64 ≡ y = omega arith in
        rw (e, f) (sym (bit_at_cat_low (row / 2 ^ 64) 64 (row % 2 ^ 64) y b) ∙ ap (λ n. bit_at n y) parts)

    high : 64 ≤ y → bit_at (two row (y / 64)) (y % 64) ≡ bit_at row y
    high b =
        let e : y / 64 ≡ 1 = omega arith in
        let f : y % 64 ≡ y - 64 = omega arith in
        rw (e, f) (sym (bit_at_cat_high (row / 2 ^ 64) 64 (row % 2 ^ 64) y (omega arith) b) ∙ ap (λ n. bit_at n y) parts)

-- So the marks in the words are those of the rows.
pub same_marks : (rows : List ℕ) (x y : ℕ) → y < 128 → numbered.Marked (words rows) x y ↔ table.Marked rows x y
unfolding Bit
same_marks rows x y l =
    let e = ap (λ w. bit_at w (y % 64)) (word_at rows x (y / 64) (omega arith)) ∙ bit_in (get_or rows x 0) y l in
    (λ m. sym e ∙ m, λ m. e ∙ m)

-- There are twice as many words as rows.
pub words_length : (rows : List ℕ) → length (words rows) ≡ length rows * 2
words_length [] = refl
words_length (row ∷ rows) = omega (arith, words_length rows)

words_more : (rows : List ℕ) (row : ℕ) → words (rows ++ row ∷ []) ≡ words rows ++ row % 2 ^ 64 ∷ row / 2 ^ 64 ∷ []
words_more [] row = refl
words_more (r ∷ rows) row = ap (λ ws. r % 2 ^ 64 ∷ r / 2 ^ 64 ∷ ws) (words_more rows row)

-- Two numbers more of a list.
two_more : (l : List ℕ) (i : ℕ) → i * 2 + 1 < length l → take ((i + 1) * 2) l ≡ take (i * 2) l ++ get_or l (i * 2) 0 ∷ get_or l (i * 2 + 1) 0 ∷ []
two_more l i b =
    let e : (i + 1) * 2 ≡ suc (suc (i * 2)) = omega arith in
    let f : i * 2 + 1 ≡ suc (i * 2) = omega arith in
    ap (λ n. take n l) e ∙ take-suc l (suc (i * 2)) 0 (omega arith)
    ∙ ap (λ front. front ++ get_or l (suc (i * 2)) 0 ∷ []) (take-suc l (i * 2) 0 (omega arith))
    ∙ append_assoc (take (i * 2) l) (get_or l (i * 2) 0 ∷ []) (get_or l (suc (i * 2)) 0 ∷ [])
    ∙ ap (λ n. take (i * 2) l ++ get_or l (i * 2) 0 ∷ get_or l n 0 ∷ []) (sym f)

-- One row more is taken from two words.
pub row_taken : (numbers rows : List ℕ) (i row : ℕ) → i < length rows → i * 2 + 1 < length numbers
    → row % 2 ^ 64 ≡ get_or numbers (i * 2) 0 → row / 2 ^ 64 ≡ get_or numbers (i * 2 + 1) 0
    → words (take i rows) ≡ take (i * 2) numbers → words (take (i + 1) (set rows i row)) ≡ take ((i + 1) * 2) numbers
row_taken numbers rows i row l b low high same =
    ap words (take_more_set rows i row l) ∙ words_more (take i rows) row
    ∙ ap (λ front. front ++ row % 2 ^ 64 ∷ row / 2 ^ 64 ∷ []) same
    ∙ ap (λ n. take (i * 2) numbers ++ n ∷ row / 2 ^ 64 ∷ []) low
    ∙ ap (λ n. take (i * 2) numbers ++ get_or numbers (i * 2) 0 ∷ n ∷ []) high
    ∙ sym (two_more numbers i b)

-- One row more is put as two words.
pub row_put : (numbers rows : List ℕ) (i : ℕ) → i < length rows → i * 2 + 1 < length numbers
    → take (i * 2) numbers ≡ words (take i rows)
    → take ((i + 1) * 2) (set (set numbers (i * 2) (get_or rows i 0 % 2 ^ 64)) (i * 2 + 1) (get_or rows i 0 / 2 ^ 64)) ≡ words (take (i + 1) rows)
row_put numbers rows i l b same =
    let row = get_or rows i 0 in
    let e : (i + 1) * 2 ≡ i * 2 + 1 + 1 = omega arith in
    let more : take (i + 1) rows ≡ take i rows ++ row ∷ [] = rw add-one (take-suc rows i 0 l) in
    ap (λ n. take n (set (set numbers (i * 2) (row % 2 ^ 64)) (i * 2 + 1) (row / 2 ^ 64))) e
    ∙ take_more_set (set numbers (i * 2) (row % 2 ^ 64)) (i * 2 + 1) (row / 2 ^ 64) (rw length-set b)
    ∙ ap (λ front. front ++ row / 2 ^ 64 ∷ []) (take_more_set numbers (i * 2) (row % 2 ^ 64) (omega arith))
    ∙ append_assoc (take (i * 2) numbers) (row % 2 ^ 64 ∷ []) (row / 2 ^ 64 ∷ [])
    ∙ ap (λ front. front ++ row % 2 ^ 64 ∷ row / 2 ^ 64 ∷ []) same
    ∙ sym (ap words more ∙ words_more (take i rows) row)
