-- What is printed fits into the buffer: a text of any procap and both lines of any refusal do.
use Rattle.std.proofs.Common.{◌≡◌, ◌≤◌, ℕ, List, length, sym, arith, length-take-le}
use Rattle.text.specs.Calls.{length_given}
use Rattle.cases.specs.Calls.{answering}
use Rattle.cases.proofs.Fitting.{answered_within}
use Rattle.check_case.proofs.main.Goals as goal

-- As many bytes as are told are no more than the room.
within : (input : List ℕ) (room told : ℕ) → told ≡ length_given (answering input room) → told ≤ room
within input room told e = omega (arith, e, answered_within input room)

pub slice_bounds-out-end : goal.slice_bounds-out-end
slice_bounds-out-end c =
    let written = c.answer_case-written in
    omega (arith, within _ _ _ written.ensures.length_told, written.auto.out)

pub slice_bounds-write_all-end : goal.slice_bounds-write_all-end
slice_bounds-write_all-end c =
    let written = c.answer_case-written in
    let fits : written.result.length ≤ length written.new.out = omega (arith, within _ _ _ written.ensures.length_told, written.auto.out) in
    sym (length-take-le written.result.length written.new.out fits)
