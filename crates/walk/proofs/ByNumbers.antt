-- What stands around a step by strengths in numbers stands around it by the strengths that are found there.
use Prim.Native.Nat.{ℕ}
use mathlib.Core.List.{List}
use Rattle.bl.specs.Policy.{Policy}
use Rattle.bl.specs.Rules.{Assumption}
use Rattle.strength.specs.Strengths.{StrengthsLent, LentStrengthsOf}
use Rattle.judging.specs.declared.judge.Scope.{Scope}
use Rattle.walk.specs.Walking.{Sources, Around}
use Rattle.walk.specs.Numbers as numbers

-- What is lent, with the strengths that are found.
abbrev pub with_found : numbers.Sources → StrengthsLent → Sources
with_found S strengths = record {
  buffer = S.buffer;
  proof = S.proof;
  state = S.state;
  certificates = S.certificates;
  strengths = strengths;
  ends = S.ends;
}

pub around_found : (S : numbers.Sources) (strengths : StrengthsLent) (rows : List ℕ) (scope : Scope) (left : ℕ) (π : Policy) (Γ : List Assumption)
    → LentStrengthsOf strengths π.pairs → numbers.Around S rows scope left π Γ → Around (with_found S strengths) rows scope left π Γ
around_found S strengths rows scope left π Γ strong around = record {
  policy = record { certified = around.policy.certified; strong = strong };
  assumed = around.assumed;
  shut_inside = around.shut_inside;
  room = around.room;
  all_there = around.all_there;
}
