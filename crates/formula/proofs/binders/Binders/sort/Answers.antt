-- The sort stands so far from the last.
use mathlib.Core.Path.{sym}
use Rattle.formula.proofs.SortsAround.{sort_at, no_sort_at}
use Rattle.formula.proofs.binders.Binders.sort.Goals as goal

pub returns-then-self-outward : goal.returns-then-self-outward
returns-then-self-outward c = rw (← c.self.view_is) (sym (no_sort_at _ _ _ c.if-self-outward.true))

pub returns : goal.returns
returns c = rw (← c.self.view_is) (sym (sort_at _ _ _ c.if-self-outward.false))
