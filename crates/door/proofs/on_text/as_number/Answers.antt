-- Numbers end at 14 and the place is below 256, so that nothing overflows.
use native.Mathlib.Omega.{arith}
use Rattle.procap.proofs.AnswerNumbers.{numbers_are_small}
use Rattle.door.proofs.on_text.as_number.Goals as goal

pub overflow_mul-result : goal.overflow_mul-result
overflow_mul-result c = let small = numbers_are_small c.args.answer in omega (arith, c.number.ensures)

pub overflow_add-result : goal.overflow_add-result
overflow_add-result c =
    let small = numbers_are_small c.args.answer in
    omega (arith, c.number.ensures, c.place.ensures, c.requires)
