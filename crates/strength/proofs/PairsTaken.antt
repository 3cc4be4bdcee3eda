-- Pairs are taken from the last to the first: the names have both sides of all, and the strengths are those of the pairs taken.
use Prim.Native.Nat.{ℕ, ◌-◌, ◌<◌}
use mathlib.Core.Path.{◌≡◌, sym, ap, ◌∙◌, subst}
use mathlib.Core.List.{List, [], ◌∷◌, ◌++◌, map}
use native.Mathlib.Omega.{arith}
use lib.ListN.{length, get_or}
use denote.Ref.{Bor}
use Rattle.std.specs.Prelude.{reverse}
use Rattle.std.proofs.lemmas.List.{get_or-reverse, reverse-append, length-reverse, map-append, reverse-reverse}
use Rattle.procap.specs.Lists.{In}
use Rattle.procap.proofs.Indices.{in_rest}
use Rattle.strength.specs.declared.table.Strengths.{Strengths}
use Rattle.strength.specs.Taking.{Stands, OnePairMore}

-- The pairs taken, where the last was taken first.
abbrev pub taken : List (Bor ℕ) → List ℕ
taken lent = reverse (map (λ p. p.now) lent)

pub taken_more : (lent : List (Bor ℕ)) (p : Bor ℕ) → taken (lent ++ p ∷ []) ≡ p.now ∷ taken lent
taken_more lent p = ap reverse (map-append (λ x. x.now) lent (p ∷ [])) ∙ reverse-append (map (λ x. x.now) lent) (p.now ∷ [])

pub all_taken : (lent : List (Bor ℕ)) (pairs : List ℕ) → map (λ p. p.now) lent ≡ reverse pairs → taken lent ≡ pairs
all_taken lent pairs e = ap reverse e ∙ reverse-reverse pairs

-- A pair that stands at a place of the list turned round is one of the list.
pub turned_in : (pairs : List ℕ) (n i : ℕ) → i < length (reverse pairs) → n ≡ get_or (reverse pairs) i n → In n pairs
turned_in pairs n i l e =
    let same = length-reverse pairs in
    let at = e ∙ get_or-reverse pairs i n (omega arith) in
    subst (λ x. In x pairs) (sym at) (in_rest n pairs 0 (length pairs - 1 - i) (omega arith) (omega arith))

-- Both sides of a pair stand there still when another was taken.
pub still_stands : (n pair : ℕ) (s more : Strengths) → OnePairMore pair s more → Stands n s → Stands n more
still_stands n pair s more t stands = record { above = rw t.same.above stands.above; under = rw t.same.under stands.under }
