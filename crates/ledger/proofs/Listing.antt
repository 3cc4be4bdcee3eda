-- The facts that are listed: one more at the end of a sound list, and the procap that is made of them.
use Prim.Native.Nat.{ℕ, ◌+◌, ◌≤◌, ◌<◌}
use mathlib.Core.Path.{◌≡◌, sym, ap, ap₂, ◌∙◌}
use mathlib.Core.List.{List, [], ◌∷◌, ◌++◌, map, map-append}
use native.Mathlib.Omega.{arith}
use native.Mathlib.Numerals.{add-one}
use lib.ListN.{length, take, set, length-append, length-map}
use lib.Seq.{take-suc-set}
use Rattle.procap.specs.Lists.{pad, ZerosPast}
use Rattle.procap.proofs.Indices.{pad_more}
use Rattle.procap.specs.Facts.{spelled, fact_of, no_fact}
use Rattle.procap.specs.Procaps.{most_facts, version_one, procap_of}
use Rattle.procap.specs.declared.fact.Fact.{Fact}
use Rattle.procap.specs.declared.procap.Request.{Request}
use Rattle.ledger.specs.declared.Ledger.{Ledger}
use Rattle.ledger.specs.Books.{book, Sound}
use Rattle.ledger.specs.Asking.{held_procap}
use Rattle.ledger.specs.Places.{all_stand, first_stand}

-- ── The places of a list ──

-- So many facts are listed, and no facts stand in the places past them.
module _ (facts : List Fact) (n : ℕ) (few : n ≤ most_facts) (rest : ZerosPast most_facts no_fact n facts) where
  all_places : length facts ≡ most_facts
  all_places = all_stand most_facts no_fact n facts few rest

  pub counted : length (take n facts) ≡ n
  counted = first_stand most_facts no_fact n facts few rest

  -- The procap takes the places over.
  pub taken_over : (r : Request) (l : Ledger)
      → record { version = version_one; request = r; from = l.from; to = l.to; count = n; facts = facts } ≡ held_procap r l (take n facts)
  taken_over r l = λ j. record { version = version_one; request = r; from = l.from; to = l.to; count = sym counted j; facts = rest j }

  module _ (room : n < most_facts) (f : Fact) where
    -- One fact more is put in the next place,
    pub put_next : take (n + 1) (set facts n f) ≡ take n facts ++ (f ∷ [])
    put_next = rw add-one (take-suc-set facts n f (omega (arith, all_places)))

    -- and no facts stand past it.
    pub zeros_past : ZerosPast most_facts no_fact (n + 1) (set facts n f)
    zeros_past =
        ap (λ fs. set fs n f) rest
        ∙ ap (λ k. set (pad most_facts no_fact (take n facts)) k f) (sym counted)
        ∙ pad_more most_facts no_fact (take n facts) f (omega (arith, counted))
        ∙ ap (pad most_facts no_fact) (sym put_next)

-- ── What is kept ──

module _ (list : List Fact) (l : Ledger) where
  -- A sound list, for which there is room, with one fact more at its end.
  pub more_sound : (f : Fact) → Sound (book l list) → length list < most_facts → f ≡ fact_of (spelled f) → Sound (book l (list ++ (f ∷ [])))
  more_sound f s room form = record {
    few = simp length-append (omega arith);
    in_form =
        ap₂ (λ fs g. fs ++ (g ∷ [])) s.in_form form
        ∙ sym (ap (map fact_of) (map-append spelled list (f ∷ [])) ∙ map-append fact_of (map spelled list) (spelled f ∷ []));
  }

  -- Of a sound book the procap is that of what it keeps.
  pub held_kept : (r : Request) → Sound (book l list) → held_procap r l list ≡ procap_of r l.from l.to (map spelled list)
  unfolding procap_of
  held_kept r s =
      λ j. record {
        version = version_one;
        request = r;
        from = l.from;
        to = l.to;
        count = sym (length-map list spelled) j;
        facts = pad most_facts no_fact (s.in_form j);
      }
