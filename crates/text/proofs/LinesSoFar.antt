-- Laws of lines of facts read one after another, each kept by its place: a line that was there before, or that is no fact's, means that there are
-- no such lines, no two alike; and else each adds its fact to those read.
use Prim.Native.Nat.{ℕ, suc, ◌+◌, ◌-◌, ◌≤◌, ◌<◌}
use mathlib.Core.Path.{◌≡◌, refl, sym, ap, ap₂, subst, ◌∙◌}
use mathlib.Core.List.{List, [], ◌∷◌, ◌++◌}
use mathlib.Core.Logic.{inl, inr}
use Rattle.std.proofs.lemmas.Option.{none-some, same_Some}
use Rattle.std.specs.Prelude.{None, Option, Some}
use native.Mathlib.Numerals.{add-one}
use native.Mathlib.Omega.{arith}
use lib.ListN.{length, take, set, replicate, length-append, length-set}
use lib.Seq.{take-suc-set}
use Rattle.procap.specs.Lists.{In, Distinct, pad}
use Rattle.procap.specs.Facts.{Spelled}
use Rattle.procap.specs.Procaps.{most_facts}
use Rattle.procap.specs.Bytes.{then, many}
use Rattle.procap.proofs.Indices.{pad_more}
use Rattle.procap.proofs.InMore.{in_more, in_last, one_more_distinct}
use Rattle.procap.proofs.ReadSoFar.{led_by, led_by_nothing, led_by_one, led_more, led_none, led_all}
use Rattle.text.specs.Reader.{fact_line}
use Rattle.text.specs.Text.{fact_text, facts_text}
use Rattle.text.specs.Overviews.{line_starts}
use Rattle.text.specs.Places.{ReadsAt, OnLines, LinesReads}
use Rattle.text.proofs.SameLines.{line_said}
use Rattle.text.proofs.OnLines.{on_more}

-- ── No element twice ──

-- One element more that is there already is there twice, whatever follows.
there_twice : {A : Type 0} (x : A) (xs ys : List A) → In x xs → Distinct ((xs ++ (x ∷ [])) ++ ys) → ⊥
unfolding Distinct In
there_twice x [] ys h d = h
there_twice x (y ∷ xs) ys (inl e) d = d.0 (in_more y (xs ++ (x ∷ [])) ys (in_last y xs x (sym e)))
there_twice x (y ∷ xs) ys (inr h) d = there_twice x xs ys h d.1

-- What is read with some values before it begins with these.
led_some : {A : Type 0} (xs : List A) (o : Option (List A × ℕ)) (zs : List A) (e : ℕ) → led_by xs o ≡ Some (zs, e) → (ys : List A) × (zs ≡ xs ++ ys)
unfolding led_by
led_some xs None zs e h = absurd (none-some (zs, e) h)
led_some xs (Some r) zs e h = (r.0, sym (ap (λ p. p.0) (same_Some (xs ++ r.0, r.1) (zs, e) h)))

-- ── Where lines begin ──

-- As many places as facts.
pub starts_length : (fs : List Spelled) (at : ℕ) → length (line_starts at fs) ≡ length fs
unfolding line_starts
starts_length [] at = refl
starts_length (f ∷ fs) at = ap suc (starts_length fs (at + length (fact_text f)))

-- One line more begins where the others end, and ends as much further on as it is long.
module _ (f : Spelled) where
  starts_more : (fs : List Spelled) (at : ℕ) → line_starts at (fs ++ (f ∷ [])) ≡ line_starts at fs ++ ((at + length (facts_text fs)) ∷ [])
  unfolding line_starts facts_text
  starts_more [] at = let here : at ≡ at + 0 = omega arith in ap (λ p. p ∷ []) here
  starts_more (g ∷ fs) at =
      let here : at + length (fact_text g) + length (facts_text fs) ≡ at + length (fact_text g ++ facts_text fs) =
      omega (arith, length-append (fact_text g) (facts_text fs)) in
      ap (λ ps. at ∷ ps) (starts_more fs (at + length (fact_text g)) ∙ ap (λ p. line_starts (at + length (fact_text g)) fs ++ (p ∷ [])) here)

  longer : (fs : List Spelled) → length (facts_text (fs ++ (f ∷ []))) ≡ length (facts_text fs) + length (fact_text f)
  unfolding facts_text
  longer [] = simp length-append (omega arith)
  longer (g ∷ fs) = simp length-append (omega (arith, longer fs))

-- ── Lines ──

-- Of so many lines the first is read, and then the others; where it is missing there are none; of no lines nothing is read.
module _ (text : List ℕ) (at k : ℕ) where
  module _ (n : ℕ) (more : k ≡ suc n) where
    first_read : (f : Spelled) (next : ℕ) → ReadsAt text at f next → many (fact_line text) k at ≡ led_by (f ∷ []) (many (fact_line text) n next)
    unfolding many then
    first_read f next r = rw (more, r) (led_by_one f (many (fact_line text) n next))

    first_missing : fact_line text at ≡ None → many (fact_line text) k at ≡ None
    unfolding many then
    first_missing e = rw (more, e)

  none_read : k ≡ 0 → many (fact_line text) k at ≡ Some ([], at)
  unfolding many
  none_read e = rw e

-- There are no such lines, no two alike.
abbrev NoLines : Option (List Spelled × ℕ) → Type 0
NoLines o = (fs : List Spelled) (e : ℕ) → o ≡ Some (fs, e) → Distinct fs → ⊥

-- Of so many lines i are read: their facts, no two alike, and their places.
pub record LinesSoFar (text : List ℕ) (at count : ℕ) (places : List ℕ) (next i : ℕ) : Type 0 where
  pub few : i ≤ count
  pub room : length places ≡ most_facts
  pub facts : List Spelled
  pub kept : places ≡ pad most_facts 0 (line_starts at facts)
  pub reached : next ≡ at + length (facts_text facts)
  pub counted : length facts ≡ i
  pub reads : many (fact_line text) count at ≡ led_by facts (many (fact_line text) (count - i) next)
  pub distinct : Distinct facts
  pub on : OnLines text (take i places) facts

-- None yet.
pub none_so_far : (text : List ℕ) (at count : ℕ) → LinesSoFar text at count (replicate most_facts 0) at 0
unfolding Distinct OnLines line_starts facts_text pad
none_so_far text at count = record {
  few = omega arith;
  room = refl;
  facts = [];
  kept = refl;
  reached = omega arith;
  counted = refl;
  reads = let all : count ≡ count - 0 = omega arith in ap (λ k. many (fact_line text) k at) all ∙ led_by_nothing _;
  distinct = tt;
  on = tt;
}

module _ {text : List ℕ} {at count : ℕ} {places : List ℕ} {next i : ℕ} (h : LinesSoFar text at count places next i) where
  module _ (l : i < count) where
    one_left : count - i ≡ suc (count - (i + 1))
    one_left = omega arith

    -- The next line is no fact's.
    pub no_line : fact_line text next ≡ None → NoLines (many (fact_line text) count at)
    no_line e fs end k d = none-some (fs, end) (sym (led_none h.facts _ h.reads (first_missing text next _ _ one_left e)) ∙ k)

    -- It is the line of a fact.
    module _ (f : Spelled) (end : ℕ) (r : ReadsAt text next f end) where
      more_read : many (fact_line text) count at ≡ led_by (h.facts ++ (f ∷ [])) (many (fact_line text) (count - (i + 1)) end)
      more_read = led_more h.facts _ h.reads f _ (first_read text next _ _ one_left f end r)

      -- One that was there before.
      pub line_twice : In f h.facts → NoLines (many (fact_line text) count at)
      line_twice s fs e k d =
          let rest = led_some (h.facts ++ (f ∷ [])) _ fs e (sym more_read ∙ k) in
          there_twice f h.facts rest.0 s (subst Distinct rest.1 d)

      -- Its place goes behind the others, and it ends where it is read up to.
      stored : i < most_facts → set places i next ≡ pad most_facts 0 (line_starts at (h.facts ++ (f ∷ [])))
      stored few =
          let made : length (line_starts at h.facts) ≡ i = starts_length h.facts at ∙ h.counted in
          ap₂ (λ ps k. set ps k next) h.kept (sym made)
          ∙ pad_more most_facts 0 (line_starts at h.facts) next (omega (arith, made))
          ∙ ap (λ p. pad most_facts 0 (line_starts at h.facts ++ (p ∷ []))) h.reached
          ∙ ap (pad most_facts 0) (sym (starts_more f h.facts at))

      ends : end ≡ at + length (facts_text (h.facts ++ (f ∷ [])))
      ends = omega (arith, (line_said text next f end r).0.place, h.reached, longer f h.facts)

      -- One that was not.
      pub one_so_far : count ≤ most_facts → (In f h.facts → ⊥) → LinesSoFar text at count (set places i next) end (i + 1)
      one_so_far small n = record {
        few = omega arith;
        room = length-set places i next ∙ h.room;
        facts = h.facts ++ (f ∷ []);
        kept = stored (omega arith);
        reached = ends;
        counted = omega (arith, length-append h.facts (f ∷ []), h.counted);
        reads = more_read;
        distinct = one_more_distinct f h.facts h.distinct n;
        on = rw (add-one, take-suc-set places i next (omega (arith, h.room))) (on_more text (take i places) h.facts next f end h.on r);
      }

  -- All are read.
  pub all_so_far : count ≤ i → LinesReads (many (fact_line text) count at) at count (Some (record { count = count; places = places }, next))
  all_so_far l =
      let all : i ≡ count = omega (arith, h.few) in
      let kept = h.kept in
      (h.facts, led_all h.facts _ h.reads next (none_read text next _ (omega arith)), h.distinct, h.counted ∙ all, λ j. record { count = count; places = kept j })
