-- The bytes of a request's goal read as the goal: two levels, no binder, no variable.
use Prim.Native.Nat.{ℕ, ◌+◌, ◌*◌, ◌/◌, ◌%◌}
use native.Mathlib.Omega.{arith}
use mathlib.Core.Path.{◌≡◌, refl, ◌∙◌}
use mathlib.Core.List.{List, [], ◌∷◌}
use Rattle.std.specs.Prelude.{Some}
use Rattle.procap.specs.Bytes.{then, present, ensure, big_endian, next, number, term_by, many, predicate_and}
use Rattle.procap.specs.declared.procap.Request.{Request}
use Rattle.bl.specs.Trees.{Formula, says, atom}
use Rattle.bl.specs.Formulas.{place_of as of-the-sort, fixed_by, place_by, argument, place, formula_by, formula}
use Rattle.bl.specs.Rules.{name, administrator, may, goal}
use Rattle.formula.specs.PutIn.{stack, terms_of, no_terms, fill_place, fill}
use Rattle.formula.specs.Meaning.{Means}

-- The bytes, with two for each name of the request.
abbrev goal_bytes : ℕ → ℕ → ℕ → ℕ → ℕ → ℕ → List ℕ
goal_bytes a b c d e f = 0x15 ∷ 0x00 ∷ 0x00 ∷ 0x01 ∷ 0x17 ∷ 0x00 ∷ 0x64 ∷ 0x03 ∷ 0x00 ∷ a ∷ b ∷ 0x00 ∷ c ∷ d ∷ 0x00 ∷ e ∷ f ∷ []

-- What they read as.
abbrev goal_read : ℕ → ℕ → ℕ → ℕ → ℕ → ℕ → Formula
goal_read a b c d e f =
    says (name administrator) (atom may (name ((0 + a) * 256 + b) ∷ name ((0 + c) * 256 + d) ∷ name ((0 + e) * 256 + f) ∷ []))

goal_reads : (a b c d e f : ℕ) → formula (goal_bytes a b c d e f) 2 [] 0 ≡ Some (goal_read a b c d e f, 17)
unfolding then present ensure big_endian next number term_by many predicate_and of-the-sort fixed_by place_by argument place formula_by formula
goal_reads a b c d e f = refl

-- A number below 65,536 is its two bytes.
two_bytes : (n : ℕ) → (0 + n / 256) * 256 + n % 256 ≡ n
two_bytes n = omega arith

goal_fills : (a b c d e f : ℕ) → fill 0 (terms_of no_terms) (goal_read a b c d e f) ≡ goal_read a b c d e f
unfolding stack terms_of fill_place fill
goal_fills a b c d e f = refl

-- So they mean the goal.
goal_means : (r : Request) (a b c d e f : ℕ) → (0 + a) * 256 + b ≡ r.who → (0 + c) * 256 + d ≡ r.what → (0 + e) * 256 + f ≡ r.right
    → Means (goal_bytes a b c d e f) 0 (record { at = 0; terms = no_terms }) (goal r)
goal_means r a b c d e f who what right = record {
  level = 2;
  low = omega arith;
  sorts = [];
  as_many = refl;
  few = record { few = omega arith; room = refl };
  tree = goal_read a b c d e f;
  end = 17;
  reads = goal_reads a b c d e f;
  filled = goal_fills a b c d e f ∙ (λ i. says (name administrator) (atom may (name (who i) ∷ name (what i) ∷ name (right i) ∷ [])));
}

-- The two bytes of each name of a request.
pub goal_of_request : (r : Request)
    → Means (goal_bytes (r.who / 256) (r.who % 256) (r.what / 256) (r.what % 256) (r.right / 256) (r.right % 256)) 0 (record { at = 0; terms = no_terms }) (goal r)
goal_of_request r = goal_means r _ _ _ _ _ _ (two_bytes r.who) (two_bytes r.what) (two_bytes r.right)
