-- Lines, terms and facts: what each reader finds is spelled by the bytes that it takes, and each spelling is read as what it spells.
-- A number in the text is followed by a space or a line feed, so it ends where its spelling does.
use Prim.Native.Nat.{ℕ, zero, suc, ◌≤◌, ◌<◌, ◌^◌}
use mathlib.Core.Path.{◌≡◌, refl, ap}
use mathlib.Core.Bool.{Bool, true, false}
use mathlib.Core.List.{List, [], ◌∷◌, ◌++◌, append_assoc}
use Rattle.std.specs.Prelude.{IfSome, Option, Some}
use native.Mathlib.Nat.{add-zero}
use native.Mathlib.Omega.{arith}
use lib.ListN.{length, drop}
use lib.Dec.{eqb}
use borrow.Author.Tests.{eqb-true}
use Rattle.procap.specs.Tells.{pick}
use Rattle.procap.specs.Lists.{All}
use Rattle.procap.specs.Times.{latest}
use Rattle.procap.specs.Facts.{Spelled, most_terms}
use Rattle.procap.specs.Writable.{largest_name, TermInForm}
use Rattle.procap.specs.Bytes.{then, present, many}
use Rattle.procap.specs.declared.time.Time.TheVariants.{Moment, MinusInfinity, PlusInfinity, Ctime}
use Rattle.procap.specs.declared.fact.Term.{Term}
use Rattle.procap.specs.declared.fact.Term.TheVariants.{Name, When}
use Rattle.procap.specs.declared.tag.TermTag.{TermTag}
use Rattle.procap.specs.declared.tag.TermTag.TheVariants.{NameTag, MomentTag, MinusInfinityTag, PlusInfinityTag, CtimeTag, VariableTag}
use Rattle.procap.proofs.Rebuilt.{SpelledInForm}
use Rattle.procap.proofs.Readers.{unread, read, present_read}
use Rattle.text.specs.Words.{bytes_of}
use Rattle.text.specs.Numbers.{most_digits, decimal, is_digit, while_digit, leading_digits}
use Rattle.text.specs.Text.{line, term_text, terms_text, fact_text, facts_text}
use Rattle.text.specs.Line.{line_to}
use Rattle.text.specs.Reader.{term_letter, Mark, space, line_end, no_mark, mark_of, term_with, term, more_terms, terms, fact_line}
use Rattle.text.proofs.Readers.{Takes, takes_none, joined, parted, TextRead, then_read, byte_read, byte_found, literal_read, literal_found, number_read, number_found}

-- What is so of both is so of the one that a comparison picks.
pick_so : {A : Type 0} (P : A → Type 0) (b c : ℕ) {x y : A} → (b ≡ c → P x) → P y → P (pick (eqb b c) x y)
pick_so P b c {x} {y} h k = by (eqb b c) refl
  where
    by : (t : Bool) → eqb b c ≡ t → P (pick t x y)
    by true e = h (eqb-true b c e)
    by false e = k

-- The byte that announces a term.
abbrev Letter : ℕ → TermTag → Type 0
Letter b NameTag = b ≡ 0x6e
Letter b MomentTag = b ≡ 0x74
Letter b MinusInfinityTag = b ≡ 0x2d
Letter b PlusInfinityTag = b ≡ 0x2b
Letter b CtimeTag = b ≡ 0x63
Letter b VariableTag = Unit {0}

-- It is the byte that was read.
letter_is : (b : ℕ) → IfSome (term_letter b) (Letter b)
letter_is b =
    let P = λ (tag : Option TermTag). IfSome tag (Letter b) in
    pick_so P b 0x6e (λ e. e) (pick_so P b 0x74 (λ e. e) (pick_so P b 0x2d (λ e. e) (pick_so P b 0x2b (λ e. e) (pick_so P b 0x63 (λ e. e) tt))))

-- The byte that goes on or ends the line.
abbrev Marked : ℕ → Mark → Type 0
Marked b space = b ≡ 0x20
Marked b line_end = b ≡ 0x0a
Marked b no_mark = Unit {0}

-- It is the byte that was read.
mark_is : (b : ℕ) → Marked b (mark_of b)
mark_is b = pick_so (Marked b) b 0x20 (λ e. e) (pick_so (Marked b) b 0x0a (λ e. e) tt)

-- Terms up to the line's end.
abbrev terms_line : List Term → List ℕ
terms_line ts = terms_text ts ++ bytes_of "\n"

-- At most n terms that a text can spell.
abbrev TermsInForm : ℕ → List Term → Type 0
TermsInForm n ts = (length ts ≤ n) × All TermInForm ts

module _ {bytes : List ℕ} where
  -- ── What is read ──

  -- A line is read from just its word, its number and its line feed.
  pub line_read : (word : List ℕ) (limit at : ℕ) → limit < 10 ^ most_digits → TextRead bytes at (line word) (λ n. n ≤ limit) (line_to bytes word limit at)
  unfolding line_to line
  line_read word limit at l =
      then_read (literal_read word at) λ _ m₁ t₁ _.
      then_read (number_read limit m₁ l) λ n m₂ t₂ small.
      then_read (literal_read (bytes_of "\n") m₂) λ _ m₃ t₃ _.
      read (joined (joined t₁ t₂) t₃, small)

  -- A term is read from just its letter and its number.
  term_with_read : (tag : TermTag) (b at mid : ℕ) → Letter b tag → Takes bytes at (b ∷ []) mid → TextRead bytes at term_text TermInForm (term_with bytes tag mid)
  unfolding term_with term_text TermInForm
  term_with_read NameTag b at mid e t =
      then_read (number_read largest_name mid (omega arith)) λ n _ t₁ small. read (joined (rw e at t) t₁, small)
  term_with_read MomentTag b at mid e t =
      then_read (number_read latest mid (omega arith)) λ n _ t₁ small. read (joined (rw e at t) t₁, small)
  term_with_read MinusInfinityTag b at mid e t = read (rw e at t, tt)
  term_with_read PlusInfinityTag b at mid e t = read (rw e at t, tt)
  term_with_read CtimeTag b at mid e t = read (rw e at t, tt)
  term_with_read VariableTag b at mid e t = unread

  -- So a term is read from just its spelling.
  term_read : (at : ℕ) → TextRead bytes at term_text TermInForm (term bytes at)
  unfolding term
  term_read at =
      then_read (byte_read at) λ b mid t _.
      present_read (term_letter b) mid (λ tag. term_with bytes tag) λ tag e.
      term_with_read tag b at mid (rw e at (letter_is b)) t

  -- Terms after a mark, where the rest is read from just its spelling.
  more_terms_read : (n : ℕ) → ((at : ℕ) → TextRead bytes at terms_line (TermsInForm n) (terms bytes n at))
      → (mark : Mark) (b at mid : ℕ) → Marked b mark → Takes bytes at (b ∷ []) mid
      → TextRead bytes at terms_line (TermsInForm (suc n)) (more_terms bytes (terms bytes n) mark mid)
  unfolding more_terms terms_text All
  more_terms_read n rest space b at mid e t =
      then_read (term_read mid) λ x m₁ t₁ h.
      then_read (rest m₁) λ xs m₂ t₂ hs.
      read {a = x ∷ xs} (rw append_assoc (joined (joined (rw e at t) t₁) t₂), (omega (arith, hs.0), (h, hs.1)))
  more_terms_read n rest line_end b at mid e t = read {a = []} (rw e at t, (omega arith, tt))
  more_terms_read n rest no_mark b at mid e t = unread

  -- So terms up to the line's end are.
  terms_read : (n at : ℕ) → TextRead bytes at terms_line (TermsInForm n) (terms bytes n at)
  unfolding terms terms_text All
  terms_read zero at = then_read (literal_read (bytes_of "\n") at) λ _ _ t _. read (t, (omega arith, tt))
  terms_read (suc n) at =
      then_read (byte_read at) λ b mid t _. more_terms_read n (λ k. terms_read n k) (mark_of b) b at mid (mark_is b) t

  -- A fact is read from just its line.
  pub fact_read : (at : ℕ) → TextRead bytes at fact_text SpelledInForm (fact_line bytes at)
  unfolding fact_line fact_text
  fact_read at =
      then_read (literal_read (bytes_of "fact=") at) λ _ m₁ t₁ _.
      then_read (number_read largest_name m₁ (omega arith)) λ p m₂ t₂ small.
      then_read (terms_read most_terms m₂) λ ts _ t₃ h.
      read (rw append_assoc (joined (joined t₁ t₂) t₃), (small, h.0, h.1))

  -- Facts are read from just their lines.
  pub facts_read : (n at : ℕ) → TextRead bytes at facts_text (λ fs. (length fs ≡ n) × All SpelledInForm fs) (many (fact_line bytes) n at)
  unfolding many facts_text All
  facts_read zero at = read (takes_none, (refl, tt))
  facts_read (suc n) at =
      then_read (fact_read at) λ f m₁ t₁ h.
      then_read (facts_read n m₁) λ fs m₂ t₂ hs.
      read (joined t₁ t₂, (ap suc hs.0, (h, hs.1)))

  -- ── What is found ──

  -- A byte that is no digit ends the number before it.
  ended : (b : ℕ) (rest : List ℕ) {at after : ℕ} → is_digit b ≡ false → Takes bytes at (b ∷ rest) after → leading_digits (drop at bytes) ≡ []
  unfolding leading_digits while_digit
  ended b rest e h = rw (h.says, e)

  -- So does a line feed.
  ended_by_line_feed : {at after : ℕ} → Takes bytes at (bytes_of "\n") after → leading_digits (drop at bytes) ≡ []
  unfolding is_digit
  ended_by_line_feed h = ended 0x0a [] refl h

  -- So do terms up to the line's end.
  ended_by_terms : (ts : List Term) {at after : ℕ} → Takes bytes at (terms_line ts) after → leading_digits (drop at bytes) ≡ []
  unfolding is_digit terms_text
  ended_by_terms [] h = ended_by_line_feed h
  ended_by_terms (t ∷ ts) h = ended 0x20 _ refl h

  -- A line that stands there is found.
  pub line_found : (word : List ℕ) (limit n : ℕ) {at after : ℕ} → limit < 10 ^ most_digits → n ≤ limit → Takes bytes at (line word n) after
      → line_to bytes word limit at ≡ Some (n, after)
  unfolding line_to line then
  line_found word limit n l small h =
      parted (word ++ decimal n) (bytes_of "\n") h λ m₂ t₁₂ t₃.
      parted word (decimal n) t₁₂ λ m₁ t₁ t₂.
      rw (literal_found word t₁, number_found limit n l small t₂ (ended_by_line_feed t₃), literal_found (bytes_of "\n") t₃)

  -- A term that is spelled there is found, where no digit follows.
  term_found : (t : Term) {at after : ℕ} → TermInForm t → Takes bytes at (term_text t) after → leading_digits (drop after bytes) ≡ []
      → term bytes at ≡ Some (t, after)
  unfolding term term_with term_text TermInForm then present
  term_found (Name n) f h e =
      parted (bytes_of "n") (decimal n) h λ mid t₁ t₂. rw (byte_found t₁, number_found largest_name n (omega arith) f t₂ e)
  term_found (When (Moment k)) f h e =
      parted (bytes_of "t") (decimal k) h λ mid t₁ t₂. rw (byte_found t₁, number_found latest k (omega arith) f t₂ e)
  term_found (When MinusInfinity) f h e = rw (byte_found h)
  term_found (When PlusInfinity) f h e = rw (byte_found h)
  term_found (When Ctime) f h e = rw (byte_found h)

  -- Terms that are spelled there up to the line's end are found.
  terms_found : (n : ℕ) (ts : List Term) {at after : ℕ} → length ts ≤ n → All TermInForm ts → Takes bytes at (terms_line ts) after
      → terms bytes n at ≡ Some (ts, after)
  unfolding terms more_terms terms_text All then
  terms_found zero [] l f h = rw (literal_found (bytes_of "\n") h)
  terms_found zero (t ∷ ts) l f h = absurd (omega arith)
  terms_found (suc n) [] l f h = rw (byte_found h)
  terms_found (suc n) (t ∷ ts) l f h =
      parted (bytes_of " " ++ term_text t) (terms_line ts) (rw append_assoc at h) λ m₂ t₁₂ t₃.
      parted (bytes_of " ") (term_text t) t₁₂ λ m₁ t₁ t₂.
      rw (byte_found t₁, term_found t f.0 t₂ (ended_by_terms ts t₃), terms_found n ts (omega arith) f.1 t₃)

  -- A fact whose line stands there is found.
  pub fact_found : (f : Spelled) {at after : ℕ} → SpelledInForm f → Takes bytes at (fact_text f) after → fact_line bytes at ≡ Some (f, after)
  unfolding fact_line fact_text then
  fact_found f i h =
      parted (bytes_of "fact=" ++ decimal f.0) (terms_line f.1) (rw append_assoc at h) λ m₂ t₁₂ t₃.
      parted (bytes_of "fact=") (decimal f.0) t₁₂ λ m₁ t₁ t₂.
      let predicate = number_found largest_name f.0 (omega arith) i.0 t₂ (ended_by_terms f.1 t₃) in
      rw (literal_found (bytes_of "fact=") t₁, predicate, terms_found most_terms f.1 i.1 i.2 t₃)

  -- Facts whose lines stand there are found.
  pub facts_found : (fs : List Spelled) {at after : ℕ} → All SpelledInForm fs → Takes bytes at (facts_text fs) after
      → many (fact_line bytes) (length fs) at ≡ Some (fs, after)
  unfolding many facts_text All then
  facts_found [] i h = rw (h.place, add-zero)
  facts_found (f ∷ fs) i h = parted (fact_text f) (facts_text fs) h λ mid t₁ t₂. rw (fact_found f i.0 t₁, facts_found fs i.1 t₂)
