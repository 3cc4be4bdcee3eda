-- Judgements, rows and scopes whose times are held in numbers: what the numbers stand for, and what hands them on as they are.
use Rattle.std.specs.Prelude.{ℕ, ◌+◌, eqb, ltb, None, Option, Some}
use Rattle.procap.specs.Tells.{pick}
use Rattle.procap.specs.Numbered.{time_of, time_numbers}
use Rattle.procap.specs.declared.time.Time.TheVariants.{Ctime}
use Rattle.procap.specs.declared.time.TimeNumbers.{TimeNumbers}
use Rattle.formula.specs.Meaning.{begin}
use Rattle.formula.specs.declared.numbers.JudgementNumbers.{JudgementNumbers}
use Rattle.judging.specs.declared.judge.View.{View}
use Rattle.judging.specs.declared.judge.Scope.{Scope}
use Rattle.judging.specs.declared.rows.RowNumbers.{RowNumbers}
use Rattle.judging.specs.declared.in_numbers.ViewNumbers.{ViewNumbers}
use Rattle.judging.specs.declared.in_numbers.ScopeNumbers.{ScopeNumbers}
use Rattle.judging.specs.RowsOf.{most_rows}

-- Nobody's view, by the kind 0, or that of a principal on the times that the numbers stand for.
unfoldable pub view_of_numbers : ViewNumbers → Option View
view_of_numbers v =
    pick (eqb v.kind 0) None (Some (record { principal = v.principal; from = time_of v.from.kind v.from.second; to = time_of v.to.kind v.to.second }))

-- The scope on the times that its numbers stand for.
abbrev pub scope_of : ScopeNumbers → Scope
scope_of s = record { count = s.count; shut = s.shut; view = view_of_numbers s.view }

-- The numbers of a view, and of a scope. Of nobody's view they say nothing but the kind.
abbrev pub numbers_of_view : Option View → ViewNumbers
numbers_of_view None = record { kind = 0; principal = 0; from = time_numbers Ctime; to = time_numbers Ctime }
numbers_of_view (Some v) = record { kind = 1; principal = v.principal; from = time_numbers v.from; to = time_numbers v.to }

abbrev pub numbers_of_scope : Scope → ScopeNumbers
numbers_of_scope s = record { count = s.count; shut = s.shut; view = numbers_of_view s.view }

-- The part of a judgement that begins at another place, on the same interval.
abbrev pub part_of : JudgementNumbers → ℕ → JudgementNumbers
part_of j at = record { formula = begin j.formula at; from = j.from; to = j.to }

-- The side of a formula that begins at a place, as a plain assumption on an interval.
abbrev pub plain_side : JudgementNumbers → ℕ → TimeNumbers → TimeNumbers → RowNumbers
plain_side j at from to = record { whose = None; judgement = record { formula = begin j.formula at; from = from; to = to } }

-- The view of k on the interval of a judgement.
abbrev pub view_on : ℕ → JudgementNumbers → ViewNumbers
view_on k j = record { kind = 1; principal = k; from = j.from; to = j.to }

-- The scope inside of a shell, by whose the row is that stands there, and by its judgement.
abbrev pub scope_by : ScopeNumbers → Option ℕ → JudgementNumbers → ScopeNumbers
scope_by scope None j = scope
scope_by scope (Some k) j = record { count = scope.count; shut = scope.count; view = view_on k j }

-- [Rules 2A] The scope inside of a shell: in a "says" the view of who says it, on the interval that is checked, with the plain assumptions from outside shut out.
abbrev pub scope_inside : ScopeNumbers → RowNumbers → ScopeNumbers
scope_inside scope row = scope_by scope row.whose row.judgement

-- One assumption more; and the same where a row has room for it.
abbrev pub one_more : ScopeNumbers → ScopeNumbers
one_more s = record { count = s.count + 1; shut = s.shut; view = s.view }

unfoldable pub scope_with : ScopeNumbers → ScopeNumbers
scope_with s = pick (ltb s.count most_rows) (one_more s) s
