-- Pieces that the steps' own functions share: two times in a row, and the binder that a term may be put in for.
use Rattle.std.specs.Prelude.{ℕ}
use Rattle.procap.specs.declared.time.Time.{Time}
use Rattle.procap.specs.declared.fact.Term.{Term}
use Rattle.procap.specs.declared.fact.Term.TheVariants.{Name, When}
use Rattle.bl.specs.declared.FormulaTag.{FormulaTag}
use Rattle.bl.specs.declared.FormulaTag.TheVariants.{AllNamesTag, AllTimesTag}
use Rattle.bl.specs.Trees.{Place}
use Rattle.bl.specs.Questions.{Walk, done, ◌>>=◌, need}
use Rattle.bl.specs.Kinds.{as_time}

-- Two places that must be times.
unfoldable pub two_times : ℕ → Place → Place → Walk (Time × Time)
two_times q x y = do
  (t, _) ← need q (as_time x)
  (u, _) ← need q (as_time y)
  done (t, u)

-- The tag of the binder that a term may be put in for.
unfoldable pub binder_of : Term → FormulaTag
binder_of (Name n) = AllNamesTag
binder_of (When t) = AllTimesTag
