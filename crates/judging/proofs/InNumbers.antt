-- What stands over times in numbers stands for what stands over the times: by cases of whose a row is, of the kind of a view, and of the room.
use Prim.Native.Nat.{ℕ}
use mathlib.Core.Bool.{Bool, true, false}
use mathlib.Core.Path.{◌≡◌, refl}
use Rattle.std.specs.Prelude.{None, Option, Some, eqb, ltb}
use Rattle.procap.specs.Tells.{pick}
use Rattle.procap.specs.Numbered.{time_of}
use Rattle.procap.specs.declared.time.TimeNumbers.{TimeNumbers}
use Rattle.procap.proofs.Numbered.{time_back}
use Rattle.bl.specs.Rules.{no_view, view_of}
use Rattle.formula.specs.declared.numbers.JudgementNumbers.{JudgementNumbers}
use Rattle.formula.specs.Numbers.{judgement_of}
use Rattle.judging.specs.declared.judge.View.{View}
use Rattle.judging.specs.declared.judge.Scope.{Scope}
use Rattle.judging.specs.declared.rows.RowNumbers.{RowNumbers}
use Rattle.judging.specs.declared.in_numbers.ViewNumbers.{ViewNumbers}
use Rattle.judging.specs.declared.in_numbers.ScopeNumbers.{ScopeNumbers}
use Rattle.judging.specs.RowsOf.{row_of, most_rows}
use Rattle.judging.specs.Judging as judging
use Rattle.judging.specs.Judging.{view_in}
use Rattle.judging.specs.InNumbers.{view_of_numbers, numbers_of_view, scope_of, numbers_of_scope, part_of, plain_side, scope_by, scope_inside, one_more, scope_with}

-- A view and a scope are again what their numbers stand for.
pub view_again : (v : Option View) → view_of_numbers (numbers_of_view v) ≡ v
unfolding view_of_numbers
view_again None = refl
view_again (Some v) = λ d. Some (record { principal = v.principal; from = time_back v.from d; to = time_back v.to d })

pub scope_again : (s : Scope) → scope_of (numbers_of_scope s) ≡ s
scope_again s = λ d. record { count = s.count; shut = s.shut; view = view_again s.view d }

-- In whose view a step stands: nobody's by the kind 0, and by any other that of the principal on the times that the numbers stand for.
pub view_by_kind : (v : ViewNumbers)
    → view_in (view_of_numbers v) ≡ pick (eqb v.kind 0) no_view (view_of v.principal (time_of v.from.kind v.from.second) (time_of v.to.kind v.to.second))
unfolding view_in view_of_numbers
view_by_kind v = by (eqb v.kind 0)
  where
    some_view : View
    some_view = record { principal = v.principal; from = time_of v.from.kind v.from.second; to = time_of v.to.kind v.to.second }

    by : (nobodys : Bool) → view_in (pick nobodys None (Some some_view)) ≡ pick nobodys no_view (view_of some_view.principal some_view.from some_view.to)
    by true = refl
    by false = refl

-- A part, a side, the scope inside and the scope with one more stand for those of what the numbers stand for.
pub part_stands : (j : JudgementNumbers) (at : ℕ) → judgement_of (part_of j at) ≡ judging.part_of (judgement_of j) at
part_stands j at = refl

pub side_stands : (j : JudgementNumbers) (at : ℕ) (from to : TimeNumbers)
    → row_of (plain_side j at from to) ≡ judging.plain_side (judgement_of j) at (time_of from.kind from.second) (time_of to.kind to.second)
side_stands j at from to = refl

pub inside_stands : (s : ScopeNumbers) (row : RowNumbers) → scope_of (scope_inside s row) ≡ judging.scope_inside (scope_of s) (row_of row)
unfolding view_of_numbers
inside_stands s row = by row.whose
  where
    by : (whose : Option ℕ) → scope_of (scope_by s whose row.judgement) ≡ judging.scope_by (scope_of s) whose (judgement_of row.judgement)
    by None = refl
    by (Some k) = refl

pub more_stands : (s : ScopeNumbers) → scope_of (scope_with s) ≡ judging.scope_with (scope_of s)
unfolding scope_with judging.scope_with
more_stands s = by (ltb s.count most_rows)
  where
    by : (room : Bool) → scope_of (pick room (one_more s) s) ≡ pick room (judging.one_more (scope_of s)) (scope_of s)
    by true = refl
    by false = refl
