-- What comparing promises by every list of facts it promises by a list in numbers: the facts that stand there are such a list.
use Prim.Native.Nat.{ℕ}
use mathlib.Core.List.{List}
use Rattle.bl.specs.Walk.{same}
use Rattle.ledger.specs.declared.Ledger.{Ledger}
use Rattle.ledger.specs.Numbers.{counted, facts_listed}
use Rattle.ledger.proofs.ListNumbers.{sound_facts, leads_in_numbers}
use Rattle.formula.specs.declared.parts.FormulaAt.{FormulaAt}
use Rattle.formula.specs.Meaning.{Compares}
use Rattle.formula.specs.Numbers.{ComparesInNumbers}

pub compares_in_numbers : (left_bytes : List ℕ) (left : FormulaAt) (right_bytes : List ℕ) (right : FormulaAt) (d q : ℕ) (l : Ledger) (levels : ℕ) (r : Ledger) (left_next right_next : ℕ)
    → Compares left_bytes left right_bytes right d q l levels r left_next right_next
    → ComparesInNumbers left_bytes left right_bytes right d q l levels r left_next right_next
compares_in_numbers left_bytes left right_bytes right d q l levels r left_next right_next compares F G m n few state count list s = (
  leads_in_numbers state list count l r (same q F G) tt s (λ facts sound. (compares F G m n few state facts sound).0),
  (compares F G m n few state (facts_listed list count) (sound_facts list (counted l count) s)).1,
)
