-- A case that is read is in form: its request has three names, and its formulas and its proof are bytes.
use Prim.Native.Nat.{ℕ, zero, suc}
use mathlib.Core.Path.{◌≡◌, ap, subst}
use mathlib.Core.List.{List}
use Rattle.std.specs.Prelude.{None, Ok, Option, Some}
use Rattle.procap.specs.Lists.{All}
use Rattle.procap.specs.Writable.{RequestInForm}
use Rattle.procap.specs.Bytes.{Reader}
use Rattle.procap.specs.declared.procap.Request.{Request}
use Rattle.procap.proofs.Each.{each_of_both}
use Rattle.procap.proofs.Readers.{IfRead, so_read}
use Rattle.procap.proofs.Granted.{same_grant, no_grant, went_on}
use Rattle.bl.specs.Accepting.{AreBytes}
use Rattle.text.specs.Words.{bytes_of}
use Rattle.text.specs.LinesInARow.{at_line, one_line}
use Rattle.text.proofs.Requests.{request_in_form}
use Rattle.cases.specs.CaseLines.{hex_line}
use Rattle.cases.specs.Case.{Group, Case, group, groups, case_with, case_lines, case_in, buffer_of}
use Rattle.cases.proofs.HexBytes.{hex_line_bytes}

-- Of a line that reads, the reader found the value there.
line_found : {A : Type 0} (line : ℕ) (o : Option (A × ℕ)) (x : A × ℕ × ℕ) → at_line line o ≡ Ok x → o ≡ Some (x.0, x.2)
unfolding at_line
line_found line None x e = no_grant e
line_found line (Some r) x e = ap (λ y. Some (y.0, y.2)) (same_grant e)

-- What is so of all that a reader finds is so of what one line holds.
line_is_so : {A : Type 0} {P : A → Type 0} (r : Reader A) (line at : ℕ) (x : A × ℕ × ℕ) → IfRead (λ a _. P a) (r at)
    → one_line r line at ≡ Ok x → P x.0
line_is_so r line at x h e = so_read (r at) (line_found line (r at) x e) h

module _ (bytes : List ℕ) where
  -- The formula of a group.
  says_bytes : (line at : ℕ) (x : Group × ℕ × ℕ) → group bytes line at ≡ Ok x → AreBytes x.0.says
  unfolding group
  says_bytes line at x e =
      went_on _ _ _ e λ h _ e₁.
      went_on _ _ _ e₁ λ s f e₂.
      subst (λ y. AreBytes y.0.says) (same_grant e₂)
      (line_is_so (hex_line bytes (bytes_of "says=")) h.1 h.2 s (hex_line_bytes bytes (bytes_of "says=") h.2) f)

  -- The formulas of all groups.
  formulas_bytes : (n line at : ℕ) (x : List Group × ℕ × ℕ) → groups bytes n line at ≡ Ok x → AreBytes (buffer_of x.0)
  unfolding groups buffer_of All
  formulas_bytes zero line at x e = subst (λ y. AreBytes (buffer_of y.0)) (same_grant e) tt
  formulas_bytes (suc n) line at x e =
      went_on _ _ _ e λ g f e₁.
      went_on _ _ _ e₁ λ gs k e₂.
      subst (λ y. AreBytes (buffer_of y.0)) (same_grant e₂)
      (each_of_both _ g.0.says (buffer_of gs.0) (says_bytes line at g f) (formulas_bytes n g.1 g.2 gs k))

  -- A case of a request has this request, and its formulas and its proof are bytes.
  rest_in_form : (r : Request) (n line at : ℕ) (x : Case × ℕ × ℕ) → case_with bytes r n line at ≡ Ok x
      → (r ≡ x.0.request) × AreBytes (buffer_of x.0.groups) × AreBytes x.0.proof
  unfolding case_with
  rest_in_form r n line at x e =
      went_on _ _ _ e λ gs f e₁.
      went_on _ _ _ e₁ λ p k e₂.
      went_on _ _ _ e₂ λ _ _ e₃.
      let same = same_grant e₃ in (
        ap (λ y. y.0.request) same,
        subst (λ y. AreBytes (buffer_of y.0.groups)) same (formulas_bytes n line at gs f),
        subst (λ y. AreBytes y.0.proof) same
            (line_is_so (hex_line bytes (bytes_of "proof=")) gs.1 gs.2 p (hex_line_bytes bytes (bytes_of "proof=") gs.2) k),
      )

-- A case that is read is in form.
pub case_in_form : (bytes : List ℕ) (c : Case) → case_in bytes ≡ Ok c
    → RequestInForm c.request × AreBytes (buffer_of c.groups) × AreBytes c.proof
unfolding case_in case_lines
case_in_form bytes c e =
    went_on _ _ _ e λ _ _ e₁.
    went_on _ _ _ e₁ λ x f e₂.
    went_on _ _ _ f λ r k f₁.
    went_on _ _ _ f₁ λ n _ f₂.
    let rest = rest_in_form bytes r.0 n.0 n.1 n.2 x f₂ in
    let same = same_grant e₂ in (
      subst (λ y. RequestInForm y.request) same (subst RequestInForm rest.0 (request_in_form bytes 1 0 r.0 r.1 r.2 k)),
      subst (λ y. AreBytes (buffer_of y.groups)) same rest.1,
      subst (λ y. AreBytes y.proof) same rest.2,
    )
