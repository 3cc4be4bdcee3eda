-- Laws of reading a text line by line: what the moments, the procap and the whole text are where each line stands, and that
-- there are none where one does not.
use Prim.Native.Nat.{ℕ, ◌≤◌, ◌<◌}
use mathlib.Core.Path.{◌≡◌, refl, sym, ap, ◌∙◌}
use mathlib.Core.List.{List, map}
use Rattle.std.specs.Prelude.{Err, None, Ok, Option, Some}
use lib.ListN.{length}
use borrow.Author.Tests.{le-leb, lt-leb, eq-eqb, ne_eqb}
use Rattle.procap.specs.Lists.{Distinct, pad}
use Rattle.procap.specs.Times.{latest}
use Rattle.procap.specs.Facts.{Spelled, fact_of, no_fact}
use Rattle.procap.specs.Procaps.{most_facts, version_one, empty_procap, listed, procap_of}
use Rattle.procap.specs.Outcome.{Outcome, or_else, answer_of, procap_handed}
use Rattle.procap.specs.Bytes.{then, ensure, many, to_the_end, whole}
use Rattle.procap.specs.Deciding.{distinct?, spelled?}
use Rattle.procap.specs.declared.answer.Answer.TheVariants.{Granted, ProcapMalformed}
use Rattle.procap.specs.declared.fact.Fact.{Fact}
use Rattle.procap.specs.declared.procap.Request.{Request}
use Rattle.procap.specs.declared.procap.Procap.{Procap}
use Rattle.procap.proofs.Listed.{listed_back}
use Rattle.procap.proofs.Telling.{so_told, not_told}
use Rattle.text.specs.Words.{bytes_of}
use Rattle.text.specs.Line.{line_to}
use Rattle.text.specs.LinesInARow.{uncounted}
use Rattle.text.specs.RequestLines.{request_lines}
use Rattle.text.specs.Reader.{fact_line, moment_lines, procap_with, procap_lines, text_in}
use Rattle.text.specs.Overviews.{places_in, overview_of}
use Rattle.text.specs.declared.reader.ReadText.{ReadText}
use Rattle.text.specs.declared.reader.Overview.{Overview}
use Rattle.text.specs.declared.fact_places.Lines.{Lines}

-- ── The moments ──

module _ (text : List ℕ) (at : ℕ) where
  -- Without one of the two lines there are no moments.
  pub no_from : line_to text (bytes_of "from=") latest at ≡ None → moment_lines text at ≡ None
  unfolding moment_lines then
  no_from e = rw e

  module _ (from after_from : ℕ) (e : line_to text (bytes_of "from=") latest at ≡ Some (from, after_from)) where
    pub no_to : line_to text (bytes_of "to=") latest after_from ≡ None → moment_lines text at ≡ None
    unfolding moment_lines then
    no_to f = rw (e, f)

    -- With both they are the two numbers, if these are in order.
    module _ (to next : ℕ) (f : line_to text (bytes_of "to=") latest after_from ≡ Some (to, next)) where
      pub out_of_order : to < from → moment_lines text at ≡ None
      unfolding moment_lines then ensure
      out_of_order l = rw (e, f, lt-leb from to l)

      pub moments_here : from ≤ to → moment_lines text at ≡ Some ((from, to), next)
      unfolding moment_lines then ensure
      moments_here l = rw (e, f, le-leb from to l)

-- ── The procap ──

-- The array of facts that were read, with the values beside it, is the procap of these facts.
pub procap_made : (r : Request) (from to count : ℕ) (facts : List Fact) (fs : List Spelled)
    → length fs ≡ count → facts ≡ pad most_facts no_fact (map fact_of fs)
    → ◌≡◌ {A = Procap} (record { version = version_one; request = r; from = from; to = to; count = count; facts = facts }) (procap_of r from to fs)
unfolding procap_of
procap_made r from to count facts fs n e = λ i. record {
  version = version_one;
  request = r;
  from = from;
  to = to;
  count = sym n i;
  facts = e i;
}

module _ (text : List ℕ) (r : Request) (from to at : ℕ) where
  -- Without its count, or one of its facts, there is no procap.
  pub no_count : line_to text (bytes_of "facts=") most_facts at ≡ None → procap_with text r from to at ≡ None
  unfolding procap_with then
  no_count e = rw e

  module _ (count start : ℕ) (e : line_to text (bytes_of "facts=") most_facts at ≡ Some (count, start)) where
    no_facts : many (fact_line text) count start ≡ None → procap_with text r from to at ≡ None
    unfolding procap_with then
    no_facts f = rw (e, f)

    module _ (fs : List Spelled) (end : ℕ) (f : many (fact_line text) count start ≡ Some (fs, end)) where
      -- With them it is the procap of the facts, if none of these is listed twice.
      fact_twice : (Distinct fs → ⊥) → procap_with text r from to at ≡ None
      unfolding procap_with then ensure
      fact_twice n = rw (e, f, not_told (distinct? spelled? fs) n)

      procap_here : Distinct fs → procap_with text r from to at ≡ Some (procap_of r from to fs, end)
      unfolding procap_with then ensure
      procap_here d = rw (e, f, so_told (distinct? spelled? fs) d)

      -- Where bytes are left, there is none that takes all of them.
      pub bytes_left : (end ≡ length text → ⊥) → to_the_end text (procap_with text r from to at) ≡ None
      unfolding to_the_end
      bytes_left n =
          elim (distinct? spelled? fs)
          [ yes d ↦ rw (procap_here d, ne_eqb end (length text) n) | no m ↦ rw (fact_twice m) ]

      -- Where they end with the facts, it is the procap of these.
      pub procap_whole : Distinct fs → end ≡ length text → to_the_end text (procap_with text r from to at) ≡ Some (procap_of r from to fs)
      unfolding to_the_end
      procap_whole d l = rw (procap_here d, eq-eqb end (length text) l)

    -- Nor is there one without such lines, no two of them alike.
    pub no_such_lines : ((fs : List Spelled) (end : ℕ) → many (fact_line text) count start ≡ Some (fs, end) → Distinct fs → ⊥)
        → procap_with text r from to at ≡ None
    no_such_lines n = by (many (fact_line text) count start) refl
      where
        by : (o : Option (List Spelled × ℕ)) → many (fact_line text) count start ≡ o → procap_with text r from to at ≡ None
        by None f = no_facts f
        by (Some (fs, end)) f = fact_twice fs end f (n fs end f)

-- What is none does not take all the bytes either.
pub none_whole : {A : Type 0} (text : List ℕ) (o : Option (A × ℕ)) → o ≡ None → to_the_end text o ≡ None
unfolding to_the_end
none_whole text o e = rw e

-- ── The text ──

module _ (text : List ℕ) where
  -- Without its first line, or with version 0, it is no text.
  pub no_version : line_to text (bytes_of "procap=") version_one 0 ≡ None → text_in text ≡ None
  unfolding text_in whole to_the_end procap_lines then
  no_version e = rw e

  module _ (version start : ℕ) (e : line_to text (bytes_of "procap=") version_one 0 ≡ Some (version, start)) where
    pub version_zero : version ≡ 0 → text_in text ≡ None
    unfolding text_in whole to_the_end procap_lines then ensure
    version_zero z = rw (e, z)

    -- Nor without its request or its moments.
    module _ (v : version ≡ version_one) where
      pub text_no_request : uncounted (request_lines text) start ≡ None → text_in text ≡ None
      unfolding text_in whole to_the_end procap_lines then ensure
      text_no_request f = rw (e, v, f)

      module _ (r : Request) (after_request : ℕ) (f : uncounted (request_lines text) start ≡ Some (r, after_request)) where
        pub text_no_moments : moment_lines text after_request ≡ None → text_in text ≡ None
        unfolding text_in whole to_the_end procap_lines then ensure
        text_no_moments g = rw (e, v, f, g)

        -- With all these it says what the rest says.
        pub text_says : (from to next : ℕ) → moment_lines text after_request ≡ Some ((from, to), next)
            → text_in text ≡ to_the_end text (procap_with text r from to next)
        unfolding text_in whole procap_lines then ensure
        text_says from to next g = rw (e, v, f, g)

-- ── What is seen ──

-- Where there is no procap nothing is seen; where there is one, its request, its moments and the places of its facts are.
pub none_seen : (text : List ℕ) (o : Option Procap) → o ≡ None → ◌≡◌ {A = Option Overview} None (overview_of text (or_else ProcapMalformed o))
unfolding or_else overview_of
none_seen text o e = rw e

pub some_seen : (text : List ℕ) (o : Option Procap) (request : Request) (from to : ℕ) (lines : Lines) (fs : List Spelled)
    → o ≡ Some (procap_of request from to fs) → lines ≡ record { count = length fs; places = places_in text fs }
    → ◌≡◌ {A = Option Overview} (Some (record { request = request; from = from; to = to; lines = lines })) (overview_of text (or_else ProcapMalformed o))
unfolding or_else overview_of procap_of
some_seen text o request from to lines fs e on =
    let same : lines ≡ record { count = length fs; places = places_in text (listed (procap_of request from to fs)) } =
    on ∙ ap (λ gs. record { count = length fs; places = places_in text gs }) (sym (listed_back request from to fs)) in
    rw e (ap (λ l. Some (record { request = request; from = from; to = to; lines = l })) same)

-- ── What is handed over ──

-- The answer and the procap of a reading.
abbrev Handed : Outcome Procap → ReadText → Type 0
Handed o r = (r.answer ≡ answer_of o) × (r.procap ≡ procap_handed o)

-- Where there is no procap, the answer is 12 and the procap is empty; where there is one, it is granted.
pub none_handed : (o : Outcome Procap) (r : ReadText) → (r.answer ≡ ProcapMalformed) × (r.procap ≡ empty_procap) → o ≡ Err ProcapMalformed → Handed o r
unfolding answer_of procap_handed
none_handed o r h e = rw e h

pub some_handed : (o : Outcome Procap) (r : ReadText) (p : Procap) → r.answer ≡ Granted → r.procap ≡ p → o ≡ Ok p → Handed o r
unfolding answer_of procap_handed
some_handed o r p a h e = rw e (a, h)
