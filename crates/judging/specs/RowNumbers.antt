-- The numbers that a row is put as, and the rows with one put among them.
use Rattle.std.specs.Prelude.{ℕ, ◌*◌, List, ◌∷◌, length, ltb, eqb, None, Option, Some}
use Rattle.std.proofs.lemmas.List.Edits.{sets}
use Rattle.procap.specs.Tells.{pick}
use Rattle.formula.specs.Numbers.{numbers_of_judgement}
use Rattle.judging.specs.declared.rows.Row.{Row}
use Rattle.judging.specs.declared.rows.RowNumbers.{RowNumbers}
use Rattle.judging.specs.RowsOf.{most_rows, row_numbers, all_numbers}

-- Whether it is a claim.
abbrev pub whose_kind : Option ℕ → ℕ
whose_kind None = 0
whose_kind (Some k) = 1

-- The principal that claims it, 0 where none does.
abbrev pub whose_value : Option ℕ → ℕ
whose_value None = 0
whose_value (Some k) = k

-- A row with its times in numbers.
abbrev pub numbers_of_row : Row → RowNumbers
numbers_of_row row = record { whose = row.whose; judgement = numbers_of_judgement row.judgement }

-- The numbers of a row, in order.
abbrev pub in_order : RowNumbers → List ℕ
in_order row =
    whose_kind row.whose
    ∷ whose_value row.whose
    ∷ row.judgement.from.kind
    ∷ row.judgement.from.second
    ∷ row.judgement.to.kind
    ∷ row.judgement.to.second
    ∷ row.judgement.formula.at
    ∷ row.judgement.formula.terms.count
    ∷ row.judgement.formula.terms.numbers

-- The rows with a row's numbers at its index, where all rows are there and it is one of theirs; else the rows as they were.
unfoldable pub rows_put : List ℕ → ℕ → RowNumbers → List ℕ
rows_put rows index row =
    pick (eqb (length rows) all_numbers) (pick (ltb index most_rows) (sets rows (index * row_numbers) (in_order row)) rows) rows

-- The same of a row on two times: their numbers are put.
abbrev pub numbers_of : Row → List ℕ
numbers_of row = in_order (numbers_of_row row)

abbrev pub rows_with : List ℕ → ℕ → Row → List ℕ
rows_with rows index row = rows_put rows index (numbers_of_row row)
