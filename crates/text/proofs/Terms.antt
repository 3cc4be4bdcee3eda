-- Laws of reading terms: a name, a moment, a term by its letter, and the terms up to a line's end.
use Prim.Native.Nat.{ℕ, zero, suc, ◌+◌, ◌≤◌, ◌<◌}
use mathlib.Core.Path.{◌≡◌, sym, ap, ◌∙◌}
use mathlib.Core.List.{List, [], ◌∷◌}
use Rattle.std.proofs.lemmas.Option.{none-some, same_Some}
use Rattle.std.specs.Prelude.{None, Option, Some}
use native.Mathlib.Decide.{ℕ_discrete, dec_lt}
use native.Mathlib.Omega.{arith}
use lib.ListN.{length, get_or}
use borrow.Author.Tests.{ne_eqb}
use Rattle.procap.specs.Times.{latest}
use Rattle.procap.specs.Writable.{largest_name}
use Rattle.procap.specs.Bytes.{then, present}
use Rattle.procap.specs.declared.time.Time.TheVariants.{Moment}
use Rattle.procap.specs.declared.fact.Term.{Term}
use Rattle.procap.specs.declared.fact.Term.TheVariants.{Name, When}
use Rattle.procap.specs.declared.tag.TermTag.{TermTag}
use Rattle.procap.specs.declared.tag.TermTag.TheVariants.{NameTag, MomentTag}
use Rattle.procap.proofs.Numbers.{byte_read, byte_none}
use Rattle.procap.proofs.ReadSoFar.{led_by, led_by_one}
use Rattle.text.specs.Words.{bytes_of}
use Rattle.text.specs.Line.{number_to, literal}
use Rattle.text.specs.Reader.{term_letter, term_with, term, terms, more_terms, space}
use Rattle.text.proofs.Lines.{literal_same, literal_other, literal_past}

module _ (text : List ℕ) (at : ℕ) where
  -- A name and a moment are their numbers, or none.
  pub name_here : (n next : ℕ) → number_to text largest_name at ≡ Some (n, next) → term_with text NameTag at ≡ Some (Name n, next)
  unfolding term_with then
  name_here n next e = rw e

  pub no_name : number_to text largest_name at ≡ None → term_with text NameTag at ≡ None
  unfolding term_with then
  no_name e = rw e

  pub moment_here : (k next : ℕ) → number_to text latest at ≡ Some (k, next) → term_with text MomentTag at ≡ Some (When (Moment k), next)
  unfolding term_with then
  moment_here k next e = rw e

  pub no_moment : number_to text latest at ≡ None → term_with text MomentTag at ≡ None
  unfolding term_with then
  no_moment e = rw e

  -- A term goes on after its letter.
  pub no_term_past : length text ≤ at → term text at ≡ None
  unfolding term then
  no_term_past l = rw (byte_none text at l)

  module _ (l : at < length text) where
    pub term_here : (b : ℕ) (tag : TermTag) → get_or text at 0 ≡ b → term_letter b ≡ Some tag → term text at ≡ term_with text tag (at + 1)
    unfolding term then present
    term_here b tag e letter = rw (byte_read text at l, e, letter)

    -- A byte that is none of the five letters announces no term.
    pub other_letter : (get_or text at 0 ≡ 0x6e → ⊥) → (get_or text at 0 ≡ 0x74 → ⊥) → (get_or text at 0 ≡ 0x2d → ⊥)
        → (get_or text at 0 ≡ 0x2b → ⊥) → (get_or text at 0 ≡ 0x63 → ⊥) → term text at ≡ None
    unfolding term then present
    other_letter n t m p c =
        let b : ℕ = get_or text at 0 in
        simp (byte_read text at l, ne_eqb b 0x6e n, ne_eqb b 0x74 t, ne_eqb b 0x2d m, ne_eqb b 0x2b p, ne_eqb b 0x63 c)

-- ── Terms up to a line's end ──

-- Nothing is both read and not read.
never_both : {A : Type 0} {o : Option A} {a : A} → o ≡ None → o ≡ Some a → ⊥
never_both {a = a} e f = none-some a (sym e ∙ f)

-- A byte that was found stands at the place; one that was not does not.
module _ (text : List ℕ) (b at : ℕ) where
  found_byte : (w : ℕ) → literal text (b ∷ []) at ≡ Some (tt, w) → (at < length text) × (get_or text at 0 ≡ b) × (at + 1 ≡ w)
  unfolding literal
  found_byte w e =
      elim (dec_lt at (length text)) [
        | yes l ↦
            elim (ℕ_discrete (get_or text at 0) b)
            [ yes q ↦ (l, q, ap (λ r. r.1) (same_Some (tt, at + 1) (tt, w) (sym (literal_same text at b [] l q) ∙ e))) | no n ↦ absurd (never_both (literal_other text at b [] l n) e) ]
        | no n ↦ absurd (never_both (literal_past text at b [] (omega arith)) e)
      ]

  missed_byte : literal text (b ∷ []) at ≡ None → at < length text → get_or text at 0 ≡ b → ⊥
  unfolding literal
  missed_byte e l q = never_both e (literal_same text at b [] l q)

-- Where more terms may stand, n after this one.
module _ (text : List ℕ) (k n at : ℕ) (more : k ≡ suc n) where
  -- After a space a term is read.
  after_space : (w : ℕ) → literal text (bytes_of " ") at ≡ Some (tt, w) → terms text k at ≡ more_terms text (terms text n) space w
  unfolding terms then
  after_space w e =
      let (l, q, s) = found_byte text 0x20 at w e in
      rw (more, byte_read text at l, q, s)

  pub no_term_after : (w : ℕ) → literal text (bytes_of " ") at ≡ Some (tt, w) → term text w ≡ None → terms text k at ≡ None
  unfolding more_terms then
  no_term_after w e f = after_space w e ∙ rw f

  pub term_after : (w : ℕ) (t : Term) (next : ℕ) → literal text (bytes_of " ") at ≡ Some (tt, w) → term text w ≡ Some (t, next)
      → terms text k at ≡ led_by (t ∷ []) (terms text n next)
  unfolding more_terms then
  term_after w t next e f = after_space w e ∙ rw f (led_by_one t (terms text n next))

  -- Without one nothing but the line's end may stand there, however many terms there may be.
  pub no_space : literal text (bytes_of " ") at ≡ None → terms text k at ≡ terms text zero at
  unfolding terms then more_terms literal
  no_space e =
      elim (dec_lt at (length text)) [
        | yes l ↦
            let b : ℕ = get_or text at 0 in
            let other = ne_eqb b 0x20 (missed_byte text 0x20 at e l) in
            elim (ℕ_discrete b 0x0a) [
              | yes q ↦ rw (more, literal_same text at 0x0a [] l q, byte_read text at l, q)
              | no m ↦ rw (more, literal_other text at 0x0a [] l m, byte_read text at l, other, ne_eqb b 0x0a m)
            ]
        | no m ↦
            let past : length text ≤ at = omega arith in
            rw (more, literal_past text at 0x0a [] past, byte_none text at past)
      ]

-- After the last term the line must end.
module _ (text : List ℕ) (at : ℕ) where
  pub no_line_end : literal text (bytes_of "\n") at ≡ None → terms text zero at ≡ None
  unfolding terms then
  no_line_end e = rw e

  pub line_ends : (next : ℕ) → literal text (bytes_of "\n") at ≡ Some (tt, next) → terms text zero at ≡ Some ([], next)
  unfolding terms then
  line_ends next e = rw e
