-- Two stores are the two numbers stored one after another.
use native.Mathlib.Numerals.{add-one}
use Rattle.judging.proofs.rows.put_two.Goals as goal

pub returns : goal.returns
returns c = rw add-one
