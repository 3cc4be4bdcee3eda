-- One pair more: whoever is as strong as its stronger one gains the marks of whomever its weaker one is as strong as, and so the
-- marks say what the pairs give with one more.
use Prim.Native.Nat.{ℕ}
use mathlib.Core.Path.{◌≡◌, sym}
use mathlib.Core.List.{List, ◌∷◌}
use mathlib.Core.Logic.{◌⊎◌, inl, inr}
use Rattle.procap.specs.Lists.{In}
use Rattle.rising.specs.Rising.{below}
use Rattle.bl.specs.Strength.{Pair, pair_of, AsStrong, as_itself}
use Rattle.bl.specs.Deciding.{kept, joined, parted}
use Rattle.strength.specs.declared.table.Strengths.{Strengths}
use Rattle.strength.specs.Marks.{Bit}
use Rattle.strength.specs.Strengths.{names, MarkOf, MarkedAbove, StrengthsOf}
use Rattle.strength.specs.Taking.{Stands, Reaches, Gains, OnePairMore}

module _ (pair : ℕ) (s more : Strengths) (gained : ℕ) (stands : Stands pair s)
    (reaches : Reaches s (pair_of pair).weaker gained) (gains : Gains s more (pair_of pair).stronger gained) where
  a : ℕ
  a = (pair_of pair).stronger

  b : ℕ
  b = (pair_of pair).weaker

  -- A mark that was there, or is gained, is there then.
  marked_then : {k j : ℕ} → In k (names s.strongers) → In j (names s.weakers)
      → MarkOf s k j ⊎ (((k ≡ (pair_of pair).stronger) ⊎ MarkedAbove s k (pair_of pair).stronger) × Bit gained (below j (names s.weakers)))
      → MarkedAbove more k j
  marked_then {k} {j} i h m = record { stronger = rw gains.same.above i; weaker = rw gains.same.under h; marked = (gains.marked k j i h).1 m }

  module _ (ps : List Pair) (gives : StrengthsOf s ps) where
    through : (k j : ℕ) → AsStrong ps k (pair_of pair).stronger → AsStrong ps (pair_of pair).weaker j → MarkedAbove more k j
    through k j up down =
        let reach = gives.told k (pair_of pair).stronger up in
        let i : In k (names s.strongers) = elim reach [ inl e ↦ rw e stands.above | inr m ↦ m.stronger ] in
        let h : In j (names s.weakers) = elim (gives.told (pair_of pair).weaker j down) [ inl e ↦ rw (sym e) stands.under | inr m ↦ m.weaker ] in
        marked_then i h (inr (reach, (reaches ps gives j h).1 down))

    told_more : (k j : ℕ) → AsStrong (pair_of pair ∷ ps) k j → (k ≡ j) ⊎ MarkedAbove more k j
    told_more k j h = elim (parted (pair_of pair) ps h) [ inl was ↦ before was | inr both ↦ inr (through k j both.0 both.1) ]
      where
        before : AsStrong ps k j → (k ≡ j) ⊎ MarkedAbove more k j
        before was = elim (gives.told k j was) [ inl e ↦ inl e | inr m ↦ inr (marked_then m.stronger m.weaker (inl m.marked)) ]

    only_more : (k j : ℕ) → MarkedAbove more k j → AsStrong (pair_of pair ∷ ps) k j
    only_more k j m =
        let i : In k (names s.strongers) = rw gains.same.above at m.stronger in
        let h : In j (names s.weakers) = rw gains.same.under at m.weaker in
        elim ((gains.marked k j i h).0 m.marked) [
          | inl was ↦ kept (pair_of pair) ps (gives.only k j (record { stronger = i; weaker = h; marked = was }))
          | inr both ↦
              joined (pair_of pair) ps (elim both.0 [ inl e ↦ rw e as_itself | inr above ↦ gives.only k (pair_of pair).stronger above ])
              ((reaches ps gives j h).0 both.1)
        ]

  pub one_pair_more : OnePairMore pair s more
  one_pair_more = record { same = gains.same; grown = λ ps gives. record { told = told_more ps gives; only = only_more ps gives } }
