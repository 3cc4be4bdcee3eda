-- A pass over some facts in a state: where the first i hold, what the door comes to is what it comes to from the i-th on. The facts are
-- given one by one, by their indices: a procap gives those that it lists.
use Prim.Native.Nat.{ℕ, suc, ◌+◌, ◌≤◌, ◌<◌}
use mathlib.Core.Path.{◌≡◌, refl, sym, ap, ◌∙◌}
use mathlib.Core.List.{List, ◌∷◌}
use Rattle.std.specs.Prelude.{Err, Ok, Some}
use native.Mathlib.Numerals.{add-one}
use native.Mathlib.Omega.{arith}
use lib.ListN.{length, drop, drop_of_length-le, length-append, length-replicate, length-take}
use lib.Seq.{drop-cons}
use Rattle.procap.specs.Lists.{pad}
use Rattle.procap.specs.Facts.{Spelled, spelled}
use Rattle.procap.specs.Procaps.{listed, most_facts, HoldsAt}
use Rattle.procap.specs.Writable.{Writable}
use Rattle.procap.specs.Outcome.{go_on}
use Rattle.procap.specs.States.{stated}
use Rattle.procap.specs.Deciding.{holds_at?}
use Rattle.procap.specs.declared.answer.Answer.TheVariants.{FactMissing}
use Rattle.procap.specs.declared.fact.Fact.{Fact}
use Rattle.procap.specs.declared.procap.Procap.{Procap}
use Rattle.procap.proofs.Granted.{goes_on, is_so, is_not_so}
use Rattle.procap.proofs.Spelling.{beyond, fact_at, listed_length, listed_at}
use Rattle.door.specs.Door.{each_holds, NamesMissing, GivesFacts}

-- The fact holds in bytes that are a state, or does not.
abbrev pub Holding : ℕ → List ℕ → Spelled → Type 0
Holding m state f = (σ : List Spelled) → stated state ≡ Some σ → HoldsAt m σ f

abbrev pub NotHolding : ℕ → List ℕ → Spelled → Type 0
NotHolding m state f = (σ : List Spelled) → stated state ≡ Some σ → HoldsAt m σ f → ⊥

-- The first i facts hold, so that the answer is that of the others.
abbrev pub Passed : ℕ → List ℕ → List Spelled → ℕ → Type 0
Passed m state fs i = (σ : List Spelled) → stated state ≡ Some σ → each_holds m σ 0 fs ≡ each_holds m σ i (drop i fs)

-- At the beginning none is passed.
pub none_passed : (m : ℕ) (state : List ℕ) (fs : List Spelled) → Passed m state fs 0
none_passed m state fs σ s = refl

module _ (m : ℕ) (state : List ℕ) (fs : List Spelled) (i : ℕ) (before : Passed m state fs i) where
  -- The others begin with the fact f.
  module _ (f : Spelled) (begins : drop i fs ≡ f ∷ drop (suc i) fs) where
    -- One more fact that holds is passed.
    one_more : Holding m state f → Passed m state fs (i + 1)
    unfolding each_holds
    one_more there σ s =
        rw add-one
        (before σ s ∙ ap (each_holds m σ i) begins ∙ goes_on _ _ tt (is_so (FactMissing i) (holds_at? m σ f) (there σ s)))

    -- The first that does not hold is the answer.
    missing : NotHolding m state f → NamesMissing m state fs (Err (FactMissing i))
    unfolding each_holds go_on
    missing none σ s =
        rw (before σ s ∙ ap (each_holds m σ i) begins)
        (rw (is_not_so (FactMissing i) (holds_at? m σ f) (none σ s)) refl)

  -- Past the last the door opens.
  all_passed : length fs ≤ i → NamesMissing m state fs (Ok tt)
  unfolding each_holds
  all_passed past σ s = rw (before σ s ∙ ap (each_holds m σ i) (drop_of_length-le fs past)) refl

-- ── Facts that are given one by one ──

-- The first i hold of whatever facts are given so.
pub record GivenPassed (gives : ℕ → Fact → Type 0) (count m : ℕ) (state : List ℕ) (i : ℕ) : Type 0 where
  pub passed : (fs : List Spelled) → GivesFacts gives count fs → Passed m state fs i

module _ {gives : ℕ → Fact → Type 0} {count m : ℕ} {state : List ℕ} where
  -- At the beginning none is passed.
  pub none_given : GivenPassed gives count m state 0
  none_given = record { passed = λ fs g. none_passed m state fs }

  module _ {i : ℕ} (before : GivenPassed gives count m state i) where
    -- The others begin with the one that is given by the index.
    module _ (h : i < count) (f : Fact) (given : gives i f) where
      pub one_more_given : Holding m state (spelled f) → GivenPassed gives count m state (i + 1)
      one_more_given there = record { passed = λ fs g. one_more m state fs i (before.passed fs g) (spelled f) (g.1 i f h given) there }

      pub given_missing : NotHolding m state (spelled f) → (fs : List Spelled) → GivesFacts gives count fs → NamesMissing m state fs (Err (FactMissing i))
      given_missing none fs g = missing m state fs i (before.passed fs g) (spelled f) (g.1 i f h given) none

    pub all_given_passed : count ≤ i → (fs : List Spelled) → GivesFacts gives count fs → NamesMissing m state fs (Ok tt)
    all_given_passed past fs g = let c = g.0 in all_passed m state fs i (before.passed fs g) (omega arith)

-- ── The facts that a procap lists ──

-- A procap that can be written has as many places as there may be facts.
all_places : (p : Procap) → Writable p → length p.facts ≡ most_facts
unfolding pad
all_places p w = ap length w.zeros_past ∙ simp (length-append, length-replicate, length-take) (omega (arith, w.few_facts))

-- A procap that can be written gives those that it lists.
pub gives_listed : (p : Procap) → Writable p → (gives : ℕ → Fact → Type 0) → ((i : ℕ) (f : Fact) → i < p.count → gives i f → f ≡ fact_at p i)
    → GivesFacts gives p.count (listed p)
gives_listed p w gives is =
    let c = listed_length p (all_places p w) w.few_facts in (
      c,
      λ i f h g.
          drop-cons (listed p) i (spelled beyond) (omega arith)
          ∙ ap (λ f. f ∷ drop (suc i) (listed p)) (listed_at p i h ∙ ap spelled (sym (is i f h g))),
    )
