-- Laws of facts on lines: which fact stands on which line, what stands among them, and the facts read again from the places of their lines.
use Prim.Native.Nat.{ℕ, zero, suc, ◌+◌, ◌≤◌, ◌<◌}
use mathlib.Core.Path.{◌≡◌, refl, sym, ap, ap₂, ◌∙◌}
use mathlib.Core.List.{List, [], ◌∷◌, ◌++◌, map, map-append}
use mathlib.Core.Logic.{inl, inr}
use Rattle.std.proofs.lemmas.Option.{same_Some}
use Rattle.std.specs.Prelude.{Option, Some}
use native.Mathlib.Numerals.{add-one}
use native.Mathlib.Omega.{arith}
use lib.ListN.{length, get_or, take, set, replicate, length-map}
use lib.Seq.{length-take-le, take-suc, take_all}
use Rattle.procap.specs.Lists.{In, pad}
use Rattle.procap.specs.Facts.{Spelled, spelled, fact_of, no_fact}
use Rattle.procap.specs.Procaps.{most_facts}
use Rattle.procap.specs.Reading.{FactReads}
use Rattle.procap.specs.declared.fact.Fact.{Fact}
use Rattle.procap.proofs.Indices.{in_rest, pad_more}
use Rattle.text.specs.Places.{ReadsAt, OnLines}

-- A fact to stand past the others.
abbrev pub beyond : Spelled
beyond = (0, [])

-- The fact at an index.
abbrev pub fact_in : List Spelled → ℕ → Spelled
fact_in fs k = get_or fs k beyond

module _ (text : List ℕ) where
  -- There are as many facts as lines.
  pub on_length : (ps : List ℕ) (fs : List Spelled) → OnLines text ps fs → length fs ≡ length ps
  unfolding OnLines
  on_length [] [] h = refl
  on_length [] (f ∷ fs) h = absurd h
  on_length (p ∷ ps) [] h = absurd h
  on_length (p ∷ ps) (f ∷ fs) h = ap suc (on_length ps fs h.1)

  -- On each line stands the fact of its index.
  pub on_at : (ps : List ℕ) (fs : List Spelled) (k : ℕ) → k < length ps → OnLines text ps fs → (e : ℕ) × ReadsAt text (get_or ps k 0) (fact_in fs k) e
  unfolding OnLines
  on_at [] fs k l h = absurd (omega arith)
  on_at (p ∷ ps) [] k l h = absurd h
  on_at (p ∷ ps) (f ∷ fs) zero l h = h.0
  on_at (p ∷ ps) (f ∷ fs) (suc k) l h = on_at ps fs k (omega arith) h.1

  -- One line more.
  pub on_more : (ps : List ℕ) (fs : List Spelled) (p : ℕ) (f : Spelled) (e : ℕ) → OnLines text ps fs → ReadsAt text p f e
      → OnLines text (ps ++ (p ∷ [])) (fs ++ (f ∷ []))
  unfolding OnLines
  on_more [] [] p f e h r = ((e, r), tt)
  on_more [] (g ∷ fs) p f e h r = absurd h
  on_more (q ∷ ps) [] p f e h r = absurd h
  on_more (q ∷ ps) (g ∷ fs) p f e h r = (h.0, on_more ps fs p f e h.1 r)

  -- A fact that stands on none of the lines is none of their facts.
  not_on : (ps : List ℕ) (fs : List Spelled) (f : Spelled)
      → ((k : ℕ) → k < length ps → (g : Spelled) (e : ℕ) → ReadsAt text (get_or ps k 0) g e → f ≡ g → ⊥)
      → OnLines text ps fs → In f fs → ⊥
  unfolding OnLines In
  not_on [] [] f n h i = i
  not_on [] (g ∷ fs) f n h i = absurd h
  not_on (p ∷ ps) [] f n h i = absurd h
  not_on (p ∷ ps) (g ∷ fs) f n h (inl s) = n 0 (omega arith) g h.0.0 h.0.1 s
  not_on (p ∷ ps) (g ∷ fs) f n h (inr i) = not_on ps fs f (λ k l. n (suc k) (omega arith)) h.1 i

-- What was read from the line of a fact is this fact.
pub read_is : (o : Option (Spelled × ℕ)) (r : Fact × ℕ) → FactReads o (Some r) → (f : Spelled) (e : ℕ) → o ≡ Some (f, e) → r.0 ≡ fact_of f
read_is o r h f e k = h.1 ∙ ap (λ t. fact_of t.0) (same_Some (spelled r.0, r.1) (f, e) (sym h.0 ∙ k))

-- ── A fact that is looked for ──

-- The fact of a line, from its place to its end, is not the one that reads at another place.
abbrev pub Differ : List ℕ → ℕ → ℕ → ℕ → Type 0
Differ text at end other = (f g : Spelled) (e : ℕ) → ReadsAt text at f end → ReadsAt text other g e → f ≡ g → ⊥

module _ (text places : List ℕ) (at end : ℕ) (f : Spelled) (fs : List Spelled) (r : ReadsAt text at f end) (h : OnLines text places fs) where
  -- It is one of those on the lines where it stands on one of them, and none of them where it stands on none.
  pub met : (i : ℕ) → i < length places → ((g : Spelled) (e : ℕ) → ReadsAt text (get_or places i 0) g e → f ≡ g) → In f fs
  met i l same =
      let line = on_at text places fs i l h in
      let all = on_length text places fs h in
      rw (same (fact_in fs i) line.0 line.1) (in_rest beyond fs 0 i (omega arith) (omega arith))

  pub not_met : ((k : ℕ) → k < length places → Differ text at end (get_or places k 0)) → In f fs → ⊥
  not_met n = not_on text places fs f (λ k l g e s. n k l f g e r s) h

-- ── The facts read again ──

-- The first i facts, with zeros past them.
abbrev pub filled : List Spelled → ℕ → List Fact
filled fs i = pad most_facts no_fact (map fact_of (take i fs))

-- The array has the first i of the facts on the lines, whatever facts stand there.
abbrev pub Filled : List ℕ → List ℕ → List Fact → ℕ → Type 0
Filled text places facts i = (fs : List Spelled) → OnLines text places fs → facts ≡ filled fs i

module _ (text places : List ℕ) (facts : List Fact) where
  -- None at first.
  pub none_filled : facts ≡ replicate most_facts no_fact → Filled text places facts 0
  unfolding pad
  none_filled e = λ fs h. e

  module _ (i : ℕ) (r : Filled text places facts i) where
    -- What is read from the next line goes behind the others.
    pub one_filled : i < length places → length places ≤ most_facts → (read : Fact)
        → ((f : Spelled) (e : ℕ) → ReadsAt text (get_or places i 0) f e → read ≡ fact_of f) → Filled text places (set facts i read) (i + 1)
    one_filled l small read told fs h =
        let line = on_at text places fs i l h in
        ap₂ (λ gs f. set gs i f) (r fs h) (told (fact_in fs i) line.0 line.1)
        ∙ ap (λ j. set (filled fs i) j (fact_of (fact_in fs i))) (sym made)
        ∙ pad_more most_facts no_fact (map fact_of (take i fs)) (fact_of (fact_in fs i)) (omega (arith, made))
        ∙ ap (pad most_facts no_fact) (sym (map-append fact_of (take i fs) (fact_in fs i ∷ [])))
        ∙ ap (λ gs. pad most_facts no_fact (map fact_of gs)) (sym more)
      where
        all : length fs ≡ length places
        all = on_length text places fs h

        made : length (map fact_of (take i fs)) ≡ i
        made = length-map (take i fs) fact_of ∙ length-take-le i fs (omega (arith, all))

        more : take (i + 1) fs ≡ take i fs ++ (fact_in fs i ∷ [])
        more = rw add-one (take-suc fs i beyond (omega (arith, all)))

    -- All of them are there.
    pub all_filled : length places ≤ i → (fs : List Spelled) → OnLines text places fs → facts ≡ pad most_facts no_fact (map fact_of fs)
    all_filled l fs h =
        r fs h ∙ ap (λ gs. pad most_facts no_fact (map fact_of gs)) (take_all i fs (omega (arith, on_length text places fs h)))
