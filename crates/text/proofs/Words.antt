-- A word is read where the text from there on begins with it: a place past the end is as good as the end, where only the empty word stands.
use Prim.Native.Nat.{ℕ, ◌+◌, ◌-◌}
use mathlib.Core.Bool.{true, false}
use mathlib.Core.Path.{◌≡◌, refl, sym, ap, ◌∙◌}
use mathlib.Core.List.{List, ◌++◌}
use Rattle.std.specs.Prelude.{min, None, Option, Some, option_map}
use Rattle.std.specs.Cmp.Lexicographic.{same_text, other_text}
use Rattle.std.specs.List.{starts_with}
use Rattle.std.proofs.lemmas.Option.{same_Some}
use native.Mathlib.Decide.{dec_le}
use native.Mathlib.Omega.{arith}
use lib.ListN.{length, take, drop, drop_of_length-le, take-append-drop, length-drop}
use lib.Dec.{eqb}
use lib.Seq.{drop-drop, take_all, take-append_seam}
use Rattle.procap.proofs.Readers.{read}
use Rattle.text.specs.Line.{literal}
use Rattle.text.proofs.Readers.{Takes, TextRead, literal_read, literal_found}

-- The text from a place, or from its end if that is before the place.
abbrev pub rest : List ℕ → ℕ → List ℕ
rest text k = take (length text - k) (drop k text)

from_here : (text : List ℕ) (at k : ℕ) → k ≡ min at (length text) → rest text k ≡ drop at text
from_here text at k e = take_all (length text - k) (drop k text) (omega (arith, length-drop k text)) ∙ begins
  where
    begins : drop k text ≡ drop at text
    begins =
        elim (dec_le at (length text)) [
          | yes l ↦ ap (λ (n : ℕ). drop n text) (omega arith)
          | no n ↦ drop_of_length-le text (omega arith) ∙ sym (drop_of_length-le text (omega arith))
        ]

-- What is not taken was not read.
not_taken : {bytes word : List ℕ} {at : ℕ} (o : Option (Unit {0} × ℕ)) → TextRead bytes at (λ _. word) (λ _. Unit {0}) o
    → ((after : ℕ) → Takes bytes at word after → ⊥) → o ≡ None
not_taken None h n = refl
not_taken (Some _) (read {e = after} h) n = absurd (n after h.0)

-- A word stands where the text from there on begins with it.
pub stands_there : (text word : List ℕ) (at : ℕ) → take (length word) (drop at text) ≡ word → Takes text at word (at + length word)
stands_there text word at same = record {
  says =
      sym (take-append-drop (length word) (drop at text))
      ∙ ap (λ (s : List ℕ). s ++ drop (length word) (drop at text)) same
      ∙ ap (λ (s : List ℕ). word ++ s) (drop-drop (length word) at text);
  place = refl;
}

module _ (text word : List ℕ) (at k : ℕ) (e : k ≡ min at (length text)) where
  pub word_here : true ≡ starts_with eqb (rest text k) word → Some (at + length word) ≡ option_map (λ (r : Unit {0} × ℕ). r.1) (literal text word at)
  word_here t =
      let same : take (length word) (drop at text) ≡ word =
      ap (take (length word)) (sym (from_here text at k e)) ∙ sym (same_text word (take (length word) (rest text k)) t) in
      rw (literal_found word (stands_there text word at same))

  pub no_word_here : false ≡ starts_with eqb (rest text k) word → ◌≡◌ {A = Option ℕ} None (option_map (λ (r : Unit {0} × ℕ). r.1) (literal text word at))
  no_word_here t =
      let other : literal text word at ≡ None =
      not_taken (literal text word at) (literal_read word at) (λ after h.
      other_text word (take (length word) (rest text k)) t
      (sym (ap (take (length word)) (from_here text at k e ∙ h.says) ∙ take-append_seam word (drop after text)))) in
      rw other

-- What the place that is handed back tells of the word: it stands there up to this place, or not at all.
module _ (o : Option (Unit {0} × ℕ)) where
  pub no_word : ◌≡◌ {A = Option ℕ} None (option_map (λ (r : Unit {0} × ℕ). r.1) o) → o ≡ None
  no_word e = by o e
    where
      by : (o : Option (Unit {0} × ℕ)) → ◌≡◌ {A = Option ℕ} None (option_map (λ (r : Unit {0} × ℕ). r.1) o) → o ≡ None
      by None e = refl
      by (Some r) e = cc

  pub word_to : (next : ℕ) → Some next ≡ option_map (λ (r : Unit {0} × ℕ). r.1) o → o ≡ Some (tt, next)
  word_to next e = by o e
    where
      by : (o : Option (Unit {0} × ℕ)) → Some next ≡ option_map (λ (r : Unit {0} × ℕ). r.1) o → o ≡ Some (tt, next)
      by None e = cc
      by (Some r) e = ap (λ (n : ℕ). Some (tt, n)) (sym (same_Some next r.1 e))
