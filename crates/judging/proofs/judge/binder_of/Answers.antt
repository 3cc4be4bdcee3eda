-- A name may be put in for a binder of names, a time for a binder of times.
use mathlib.Core.Path.{sym, ap}
use Rattle.judging.specs.Pieces.{binder_of}
use Rattle.judging.proofs.judge.binder_of.Goals as goal

pub returns-in-Name : goal.returns-in-Name
unfolding binder_of
returns-in-Name c = sym (ap binder_of c.in-Name.is)

pub returns-in-When : goal.returns-in-When
unfolding binder_of
returns-in-When c = sym (ap binder_of c.in-When.is)
