-- Readers and the bytes that they take. Where a reader finds a value, the bytes from its place to the next are the value's text;
-- and where those bytes are the text of a value, the reader finds it. Both laws go along a `do` line by line, since texts in a row are joined and parted.
use Prim.Native.Nat.{ℕ, ◌+◌, ◌≤◌, ◌<◌, ◌^◌}
use mathlib.Core.Path.{◌≡◌, refl, sym, ap, ◌∙◌}
use mathlib.Core.Bool.{Bool, true, false}
use mathlib.Core.List.{List, [], ◌∷◌, ◌++◌, append-nil, append_assoc}
use Rattle.std.proofs.lemmas.Option.{none-some, same_Some}
use Rattle.std.specs.Prelude.{None, Option, Some}
use native.Mathlib.Nat.{add-zero}
use native.Mathlib.Decide.{dec_lt}
use native.Mathlib.Numerals.{add-one}
use native.Mathlib.Omega.{arith}
use lib.ListN.{length, get_or, drop, length-append, length-drop}
use lib.Seq.{drop-drop, drop-length, drop-cons}
use lib.Dec.{eqb}
use borrow.Author.Tests.{leb-true, le-leb, eqb-true, eq-eqb}
use Rattle.procap.specs.Tells.{pick}
use Rattle.procap.specs.Bytes.{Reader, then, ensure, big_endian, byte, to_the_end, whole}
use Rattle.procap.proofs.Numbers.{number_read as number_at, byte_read as byte_at, byte_none}
use Rattle.procap.proofs.Readers.{IfRead, unread, read, then_read as then-so, ensure_read, left_after}
use Rattle.text.specs.Numbers.{most_digits, decimal, leading_digits, value}
use Rattle.text.specs.Line.{literal, digits, number_to}
use Rattle.text.proofs.Numerals.{decimal_is_digits, decimal_says, decimal_one_spelling, run_is_decimal, leading_are, leading_first, leading_of}

-- ── Places ──

-- From a place on the bytes say these, and go on from the next.
pub record Takes (bytes : List ℕ) (at : ℕ) (said : List ℕ) (after : ℕ) : Type 0 where
  pub says : drop at bytes ≡ said ++ drop after bytes
  pub place : after ≡ at + length said

module _ {bytes : List ℕ} where
  -- What takes nothing stays.
  pub takes_none : {at : ℕ} → Takes bytes at [] at
  takes_none {at} = record { says = refl; place = omega arith }

  -- Texts in a row.
  pub joined : {at mid after : ℕ} {s t : List ℕ} → Takes bytes at s mid → Takes bytes mid t after → Takes bytes at (s ++ t) after
  joined {at} {mid} {after} {s} {t} h k = record {
    says = h.says ∙ ap (λ xs. s ++ xs) k.says ∙ sym (append_assoc s t (drop after bytes));
    place = omega (arith, h.place, k.place, length-append s t);
  }

  -- A text that is in two parts is taken part by part.
  pub parted : {C : Type 0} (s t : List ℕ) {at after : ℕ} → Takes bytes at (s ++ t) after
      → ((mid : ℕ) → Takes bytes at s mid → Takes bytes mid t after → C) → C
  parted s t {at} {after} h k =
      let all = h.says ∙ append_assoc s t (drop after bytes) in
      let rest = left_after bytes at s (t ++ drop after bytes) all in
      k (at + length s)
      (record { says = all ∙ ap (λ xs. s ++ xs) (sym rest); place = refl })
      (record { says = rest; place = omega (arith, h.place, length-append s t) })

-- The whole bytes, from their beginning to their end.
pub takes_all : (bytes : List ℕ) → Takes bytes 0 bytes (length bytes)
takes_all bytes = record { says = rw (drop-length, append-nil); place = omega arith }

-- What is taken from the beginning to the end is the whole.
all_taken : (bytes said : List ℕ) → Takes bytes 0 said (length bytes) → said ≡ bytes
all_taken bytes said h = sym (rw (drop-length, append-nil) at h.says)

-- ── What is found ──

-- If a value is read from a place on, its text is taken from there, and the value is so.
abbrev pub TextRead : {A : Type 0} → List ℕ → ℕ → (A → List ℕ) → (A → Type 0) → Option (A × ℕ) → Type 0
TextRead bytes at text P o = IfRead (λ a after. Takes bytes at (text a) after × P a) o

module _ {bytes : List ℕ} where
  -- Go on from what was read.
  pub then_read : {A B : Type 0} {s : A → List ℕ} {P : A → Type 0} {t : B → List ℕ} {Q : B → Type 0} {at from : ℕ} {o : Option (A × ℕ)} {f : A → Reader B}
      → TextRead bytes at s P o → ((a : A) (after : ℕ) → Takes bytes at (s a) after → P a → TextRead bytes from t Q (f a after))
      → TextRead bytes from t Q (then o f)
  then_read h k = then-so h λ a after p. k a after p.0 p.1

  -- What is read after a text.
  pub behind : {A : Type 0} {s : List ℕ} {t : A → List ℕ} {P : A → Type 0} {at mid : ℕ} {o : Option (A × ℕ)}
      → Takes bytes at s mid → TextRead bytes mid t P o → TextRead bytes at (λ a. s ++ t a) P o
  behind first unread = unread
  behind first (read h) = read (joined first h.0, h.1)

  -- What was found up to the end was found, and took all the bytes.
  pub whole_read : {A : Type 0} {t : A → List ℕ} {Q : A → Type 0} {o : Option (A × ℕ)} (a : A)
      → TextRead bytes 0 t Q o → to_the_end bytes o ≡ Some a → Q a × (t a ≡ bytes)
  unfolding to_the_end
  whole_read a unread e = absurd (none-some a e)
  whole_read {A} {t} {Q} a (read {a = b} {e = after} h) e = by (eqb after (length bytes)) refl e
    where
      by : (c : Bool) → eqb after (length bytes) ≡ c → pick c (Some b) None ≡ Some a → Q a × (t a ≡ bytes)
      by true c d =
          let same : b ≡ a = same_Some b a d in
          (rw same at h.1, rw same at (all_taken bytes (t b) (rw (eqb-true after (length bytes) c) at h.0)))
      by false c d = absurd (none-some a d)

-- A value whose text is all the bytes is found up to the end.
pub whole_found : {A : Type 0} (bytes : List ℕ) (r : Reader A) (a : A) → r 0 ≡ Some (a, length bytes) → whole bytes r ≡ Some a
unfolding whole to_the_end
whole_found bytes r a e = rw (e, eq-eqb (length bytes) (length bytes) refl)

-- ── Bytes ──

module _ {bytes : List ℕ} where
  -- One byte.
  pub byte_read : (at : ℕ) → TextRead bytes at (λ b. b ∷ []) (λ _. Unit {0}) (byte bytes at)
  byte_read at =
      elim (dec_lt at (length bytes)) [
        | yes l ↦
            let taken : Takes bytes at (get_or bytes at 0 ∷ []) (at + 1) = record { says = rw add-one (drop-cons bytes at 0 l); place = refl } in
            rw (byte_at bytes at l) (read (taken, tt))
        | no n ↦ rw (byte_none bytes at (omega arith)) unread
      ]

  -- A byte that stands there is found.
  pub byte_found : {b at after : ℕ} → Takes bytes at (b ∷ []) after → byte bytes at ≡ Some (b, after)
  unfolding big_endian
  byte_found {b} {at} {after} h =
      let fits : at + 1 ≤ length bytes = omega (arith, length-drop at bytes, ap length h.says) in
      rw h.place (number_at bytes 1 at b fits (rw h.says (omega arith)))

  -- ── Words and numbers ──

  -- A word is read from just its bytes.
  pub literal_read : (word : List ℕ) (at : ℕ) → TextRead bytes at (λ _. word) (λ _. Unit {0}) (literal bytes word at)
  unfolding literal
  literal_read [] at = read (takes_none, tt)
  literal_read (b ∷ word) at =
      then_read (byte_read at) λ x mid one _.
      ensure_read (eqb x b) _ _ λ e.
      behind (rw (eqb-true x b e) at one) (literal_read word mid)

  -- A word that stands there is found.
  pub literal_found : (word : List ℕ) {at after : ℕ} → Takes bytes at word after → literal bytes word at ≡ Some (tt, after)
  unfolding literal then ensure
  literal_found [] {at} {after} h = rw (h.place, add-zero)
  literal_found (b ∷ word) h =
      parted (b ∷ []) word h λ mid one rest. rw (byte_found one, eq-eqb b b refl, literal_found word rest)

  -- The digits that stand next.
  digits_taken : (at : ℕ) → Takes bytes at (leading_digits (drop at bytes)) (at + length (leading_digits (drop at bytes)))
  digits_taken at =
      let ds = leading_digits (drop at bytes) in
      record { says = leading_first (drop at bytes) ∙ ap (λ xs. ds ++ xs) (drop-drop (length ds) at bytes); place = refl }

  -- A number is read from just its spelling.
  pub number_read : (limit at : ℕ) → limit < 10 ^ most_digits → TextRead bytes at decimal (λ n. n ≤ limit) (number_to bytes limit at)
  unfolding number_to digits then
  number_read limit at l =
      ensure_read _ _ _ λ one.
      ensure_read _ _ _ λ small.
      let ds = leading_digits (drop at bytes) in
      let few = leb-true (value 0 ds) limit small in
      let same = run_is_decimal ds (leading_are (drop at bytes)) one (omega arith) in
      read (rw same (digits_taken at), few)

  -- A number that is spelled there is found, where no digit follows.
  pub number_found : (limit n : ℕ) {at after : ℕ} → limit < 10 ^ most_digits → n ≤ limit → Takes bytes at (decimal n) after
      → leading_digits (drop after bytes) ≡ [] → number_to bytes limit at ≡ Some (n, after)
  unfolding number_to digits then ensure
  number_found limit n {at} {after} l small h end =
      let ds = ap leading_digits h.says ∙ leading_of (decimal n) (drop after bytes) (decimal_is_digits n) end in
      let low : n < 10 ^ most_digits = omega arith in
      rw (ds, decimal_one_spelling n low, decimal_says n low, le-leb n limit small, h.place)
