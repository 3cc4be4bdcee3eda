-- Texts that are spelled one after the other: the terms of a fact and the lines of a procap's facts.
use Prim.Native.Nat.{ℕ, ◌+◌, ◌≤◌, ◌<◌}
use mathlib.Core.Path.{◌≡◌, refl, sym, ap, ◌∙◌}
use native.Mathlib.Omega.{arith}
use lib.ListN.{length, take, get_or, length-append}
use lib.Seq.{take_all}
use mathlib.Core.List.{List, [], ◌∷◌, ◌++◌, map, append_assoc}
use Rattle.procap.specs.Facts.{spelled}
use Rattle.procap.specs.declared.fact.Argument.{Argument}
use Rattle.procap.specs.declared.fact.Fact.{Fact}
use Rattle.procap.proofs.Joined.{joined, joined_more, joined_room}
use Rattle.text.specs.Words.{bytes_of}
use Rattle.text.specs.Text.{term_text, terms_text, fact_text, facts_text}

-- The text of a term in its place, after a space.
abbrev pub argument_text : Argument → List ℕ
argument_text a = bytes_of " " ++ term_text a.term

-- The line of a fact.
abbrev pub line_of : Fact → List ℕ
line_of f = fact_text (spelled f)

-- The terms of a fact and the lines of facts are such texts.
pub terms_joined : (xs : List Argument) → terms_text (map (λ a. a.term) xs) ≡ joined argument_text xs
unfolding joined terms_text
terms_joined [] = refl
terms_joined (a ∷ xs) = ap (λ bs. argument_text a ++ bs) (terms_joined xs)

pub facts_joined : (fs : List Fact) → facts_text (map spelled fs) ≡ joined line_of fs
unfolding joined facts_text
facts_joined [] = refl
facts_joined (f ∷ fs) = ap (λ bs. line_of f ++ bs) (facts_joined fs)

-- Of texts that are spelled one after the other behind what is spelled before them, the next one goes behind the others, and where there is
-- room for all, there is room for it.
module _ {A : Type 0} (f : A → List ℕ) (text : List A → List ℕ) (same : (xs : List A) → text xs ≡ joined f xs) (d : A) (xs : List A) (i : ℕ)
    (l : i < length xs) (before now : List ℕ) (so_far : now ≡ before ++ text (take i xs)) where
  pub spelled_next : (after : List ℕ) → after ≡ now ++ f (get_or xs i d) → after ≡ before ++ text (take (i + 1) xs)
  spelled_next after e =
      e
      ∙ ap (λ bs. bs ++ f (get_or xs i d)) so_far
      ∙ append_assoc before (text (take i xs)) (f (get_or xs i d))
      ∙ ap (λ bs. before ++ bs) (sym (same (take (i + 1) xs) ∙ joined_more f d xs i l ∙ ap (λ bs. bs ++ f (get_or xs i d)) (sym (same (take i xs)))))

  pub spelled_room : (room : ℕ) → length before + length (text xs) ≤ room → length now + length (f (get_or xs i d)) ≤ room
  spelled_room room h =
      let all = ap length (same xs) in
      let first = ap length (same (take i xs)) in
      let whole = ap (λ ys. length (joined f ys)) (take_all (length xs) xs (omega arith)) in
      omega (arith, joined_room f d xs i (length xs) l (omega arith), ap length so_far ∙ length-append before (text (take i xs)))
