-- A longer number is spelled by spelling its tenth, which is a smaller number, and then its last digit.
use Prim.Native.Nat.{◌+◌, ◌/◌, ◌%◌}
use mathlib.Core.Path.{◌≡◌, sym, ap, ◌∙◌}
use mathlib.Core.List.{[], ◌∷◌, ◌++◌, append_assoc}
use native.Mathlib.Omega.{arith}
use lib.ListN.{length, length-append}
use Rattle.text.specs.Numbers.{digit_zero, decimal}
use Rattle.text.proofs.Decimals.{decimal_one, decimal_more, one_digit_more, decimal_some}
use Rattle.text.proofs.spell.Pen.+number.Goals.{then-number-ge10, else-number-ge10}
use Rattle.text.proofs.spell.Pen.+number.Goals as goal

pub number-requires : goal.number-requires
number-requires t c = (omega arith, omega (arith, one_digit_more c.args.number (omega arith) (omega arith)))

pub word-requires : goal.word-requires
word-requires t c =
    elim c.if-number-ge10.branch [
      | then-number-ge10 w ↦
          let tenth = simp length-append at (ap length (w.self-is ∙ w.number.ensures)) in
          omega (arith, tenth, one_digit_more c.args.number w.if-number-ge10.true (omega arith))
      | else-number-ge10 w ↦ omega (arith, ap length w.self-is, decimal_some c.args.number)
    ]

pub returns : goal.returns
returns t c =
    c.word.ensures
    ∙ elim c.if-number-ge10.branch [
      | then-number-ge10 w ↦
          ap (λ bs. bs ++ ((digit_zero + c.args.number % 10) ∷ [])) (w.self-is ∙ w.number.ensures)
          ∙ append_assoc c.args.self.now (decimal (c.args.number / 10)) _
          ∙ ap (λ bs. c.args.self.now ++ bs) (sym (decimal_more c.args.number w.if-number-ge10.true (omega arith)))
      | else-number-ge10 w ↦
          let digit : c.args.number % 10 ≡ c.args.number = omega arith in
          ap (λ bs. bs ++ ((digit_zero + c.args.number % 10) ∷ [])) w.self-is
          ∙ ap (λ d. c.args.self.now ++ ((digit_zero + d) ∷ [])) digit
          ∙ ap (λ bs. c.args.self.now ++ bs) (sym (decimal_one c.args.number (omega arith)))
    ]
