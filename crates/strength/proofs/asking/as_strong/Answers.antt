-- The same principal is as strong as itself. Of two others that have places the mark tells.
use Rattle.strength.proofs.TellingByNumbers.{tells_itself, tells_by_mark}
use Rattle.strength.proofs.asking.as_strong.Goals as goal

pub returns-then-principal-other : goal.returns-then-principal-other
returns-then-principal-other c = tells_itself _ _ _ c.if-principal-other.true

pub returns : goal.returns
returns c =
    tells_by_mark c.args.strengths.now _ _ _ _ c.if-principal-other.false c.if-strengths-ne-STRENGTH_NUMBERS.false
    c.in-Some.ensures.place c.in-Some-place_in.ensures.place c.has_mark.result (rw c.from.ensures at c.has_mark.ensures)
