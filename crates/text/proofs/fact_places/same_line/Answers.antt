-- Both lines stand within the text, and behind their word the bytes from the other place begin with those of the line exactly where the facts are the
-- same.
use native.Mathlib.Omega.{arith}
use Rattle.text.proofs.SameLines.{line_within, same_told}
use Rattle.text.proofs.fact_places.same_line.Goals as goal

pub returns-in_default : goal.returns-in_default
returns-in_default c f g e h k same =
    let inside = line_within _ _ _ _ h in
    omega (arith, c.in_default.ensures.lookup.0)

pub returns-in_default-get : goal.returns-in_default-get
returns-in_default-get c f g e h k same =
    let inside = line_within _ _ _ _ k in
    omega (arith, c.in_default-get.ensures.lookup.0)

pub returns : goal.returns
returns c f g e h k =
    let one = line_within _ _ _ _ h in
    let two = line_within _ _ _ _ k in
    same_told _ _ f _ h _ g e k _ _ _ _ c.in-Some.ensures.lookup.0.2 c.in-Some-get.ensures.lookup.0.2 (omega arith) (omega arith) _
    c.starts_with.ensures.value
