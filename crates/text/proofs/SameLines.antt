-- Two lines of facts are the same bytes behind the word with which both begin exactly when they are the same fact: a line that reads as a fact has
-- the bytes of the fact's spelling, and where these bytes stand, this fact is read.
use Prim.Native.Nat.{ℕ, ◌+◌, ◌-◌, ◌≤◌}
use mathlib.Core.Bool.{Bool, true, false}
use mathlib.Core.Path.{◌≡◌, sym, ap, ◌∙◌}
use mathlib.Core.List.{List, ◌++◌}
use Rattle.std.proofs.lemmas.Option.{same_Some}
use Rattle.std.specs.Cmp.Lexicographic.{same_text, other_text}
use Rattle.std.specs.List.{starts_with}
use native.Mathlib.Omega.{arith}
use lib.ListN.{length, take, drop, length-drop, length-append}
use lib.Dec.{eqb}
use lib.Seq.{take_all, take-append_seam}
use Rattle.procap.specs.Facts.{Spelled}
use Rattle.procap.specs.Tells.{Tells}
use Rattle.procap.proofs.Rebuilt.{SpelledInForm}
use Rattle.procap.proofs.Readers.{so_read}
use Rattle.text.specs.Words.{bytes_of}
use Rattle.text.specs.Numbers.{decimal}
use Rattle.text.specs.Text.{terms_text, fact_text}
use Rattle.text.specs.Reader.{fact_line}
use Rattle.text.specs.Places.{ReadsAt}
use Rattle.text.proofs.Readers.{Takes, joined, parted}
use Rattle.text.proofs.Spellings.{fact_read, fact_found}
use Rattle.text.proofs.Words.{stands_there}

-- The word with which the line of a fact begins, and what is spelled behind it.
abbrev word : List ℕ
word = bytes_of "fact="

abbrev behind : Spelled → List ℕ
behind f = decimal f.0 ++ terms_text f.1 ++ bytes_of "\n"

-- The line of a fact is not empty.
line_some : (f : Spelled) → 1 ≤ length (fact_text f)
unfolding fact_text
line_some f = simp length-append (omega arith)

module _ (text : List ℕ) (at : ℕ) (f : Spelled) (end : ℕ) (h : ReadsAt text at f end) where
  -- A line that reads as a fact is the fact's spelling.
  pub line_said : Takes text at (fact_text f) end × SpelledInForm f
  line_said = so_read (fact_line text at) h (fact_read at)

  -- The word, and what is spelled behind it.
  parts_said : Takes text at word (at + 5) × Takes text (at + 5) (behind f) end
  unfolding fact_text
  parts_said = parted word (behind f) line_said.0 λ mid w b. let m : mid ≡ at + 5 = w.place in (rw m at w, rw m at b)

  -- It stands within the text.
  pub line_within : (at + 5 ≤ end) × (end ≤ length text)
  line_within =
      let t = line_said.0 in
      let sizes = length-drop at text in
      let past = length-drop end text in
      let all = ap length t.says ∙ length-append (fact_text f) (drop end text) in
      let some = line_some f in
      let place = t.place in
      let behind = parts_said.1.place in
      (omega arith, omega arith)

  -- The bytes behind the word, up to its end, are those of the spelling.
  line_bytes : take (end - (at + 5)) (drop (at + 5) text) ≡ behind f
  line_bytes =
      let t = parts_said.1 in
      let size : end - (at + 5) ≡ length (behind f) = omega (arith, t.place) in
      ap (λ (n : ℕ). take n (drop (at + 5) text)) size ∙ ap (take (length (behind f))) t.says ∙ take-append_seam (behind f) (drop end text)

-- So the bytes behind the word at another place begin with those of the line exactly where the fact read there is the same.
module _ (text : List ℕ) (at : ℕ) (f : Spelled) (end : ℕ) (h : ReadsAt text at f end) (other : ℕ) (g : Spelled) (e : ℕ) (k : ReadsAt text other g e)
    (line rest : List ℕ) (a b : ℕ) (is_line : line ≡ take (end - a) (drop a text)) (is_rest : rest ≡ take (length text - b) (drop b text))
    (is_a : a ≡ at + 5) (is_b : b ≡ other + 5) where
  spelled_line : line ≡ behind f
  spelled_line = (rw is_a at is_line) ∙ line_bytes text at f end h

  whole_rest : rest ≡ drop (other + 5) text
  whole_rest =
      (rw is_b at is_rest) ∙ take_all (length text - (other + 5)) (drop (other + 5) text) (omega (arith, length-drop (other + 5) text))

  pub same_told : (r : Bool) → r ≡ starts_with eqb rest line → Tells r (f ≡ g)
  unfolding fact_text
  same_told true t =
      let begins : take (length (behind f)) (drop (other + 5) text) ≡ behind f =
      ap (λ (l : List ℕ). take (length l) (drop (other + 5) text)) (sym spelled_line)
      ∙ ap (take (length line)) (sym whole_rest)
      ∙ sym (same_text line (take (length line) rest) t)
      ∙ spelled_line in
      let there = joined (parts_said text other g e k).0 (stands_there text (behind f) (other + 5) begins) in
      let found = fact_found f (line_said text at f end h).1 there in
      ap (λ r. r.0) (same_Some (f, other + 5 + length (behind f)) (g, e) (sym found ∙ k))
  same_told false t = λ same.
      let says = (parts_said text other g e k).1.says in
      other_text line (take (length line) rest) t
      (spelled_line
      ∙ sym (take-append_seam (behind f) (drop e text))
      ∙ ap (λ (s : Spelled). take (length (behind f)) (behind s ++ drop e text)) same
      ∙ ap (take (length (behind f))) (sym says ∙ sym whole_rest)
      ∙ ap (λ (l : List ℕ). take (length l) rest) (sym spelled_line))
