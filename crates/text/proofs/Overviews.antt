-- What an overview of a text says: the text reads as the procap of what was seen, and the lines of its facts begin at the places that were
-- seen. The text is just the procap's spelling, so its last bytes are the lines of the facts, each from the end of the one before.
use Prim.Native.Nat.{ℕ, ◌-◌, ◌≤◌}
use mathlib.Core.Path.{◌≡◌, refl, sym, subst, ◌∙◌}
use mathlib.Core.List.{List, [], ◌∷◌, ◌++◌}
use Rattle.std.proofs.lemmas.Option.{same_Some}
use Rattle.std.specs.Prelude.{Err, None, Ok, Option, Some}
use native.Mathlib.Omega.{arith}
use lib.ListN.{length, take}
use lib.Seq.{take_at}
use Rattle.procap.specs.Lists.{All, pad}
use Rattle.procap.specs.Facts.{Spelled}
use Rattle.procap.specs.Procaps.{most_facts, listed, procap_of}
use Rattle.procap.specs.Outcome.{or_else}
use Rattle.procap.specs.declared.answer.Answer.TheVariants.{ProcapMalformed}
use Rattle.procap.specs.declared.procap.Procap.{Procap}
use Rattle.procap.proofs.Rebuilt.{SpelledInForm, rebuilt, listed_count, listed_in_form}
use Rattle.text.specs.Words.{bytes_of}
use Rattle.text.specs.Text.{line, fact_text, facts_text, text_of}
use Rattle.text.specs.Reader.{text_in}
use Rattle.text.specs.Overviews.{line_starts, places_in, overview_of}
use Rattle.text.specs.Places.{OnLines}
use Rattle.text.specs.Calls.{reading}
use Rattle.text.specs.declared.reader.Overview.{Overview}
use Rattle.text.proofs.Readers.{Takes, takes_all, parted}
use Rattle.text.proofs.Spellings.{fact_found}
use Rattle.text.proofs.LinesSoFar.{starts_length}
use Rattle.text.proofs.Requests.{request_text}
use Rattle.text.proofs.WholeTexts.{moments_text, text_parts}
use Rattle.text.proofs.Theorems.{what_reads_is_written}

-- ── Where the lines of facts begin ──

module _ (text : List ℕ) where
  -- Where the lines of facts stand one after another, each begins at its place.
  starts_on : (fs : List Spelled) {at after : ℕ} → All SpelledInForm fs → Takes text at (facts_text fs) after → OnLines text (line_starts at fs) fs
  unfolding line_starts facts_text OnLines All
  starts_on [] i h = tt
  starts_on (f ∷ fs) i h =
      parted (fact_text f) (facts_text fs) h λ mid t₁ t₂. ((mid, fact_found f i.0 t₁), rw t₁.place at (starts_on fs i.1 t₂))

  -- The last bytes of a procap's text are the lines of its facts.
  facts_last : (p : Procap) → text_of p ≡ text → Takes text (length text - length (facts_text (listed p))) (facts_text (listed p)) (length text)
  facts_last p e =
      let count = line (bytes_of "facts=") p.count in
      let front = line (bytes_of "procap=") p.version ++ request_text p.request ++ moments_text (p.from, p.to) in
      let all = subst (λ said. Takes text 0 said (length text)) (sym e ∙ text_parts p) (takes_all text) in
      parted front (count ++ facts_text (listed p)) all λ _ _ rest.
      parted count (facts_text (listed p)) rest λ mid _ lines.
      let here : mid ≡ length text - length (facts_text (listed p)) = omega (arith, lines.place) in
      rw here at lines

-- ── What was seen ──

-- What was seen of a text that reads, with the facts on its lines.
pub record Seen (text : List ℕ) (r : Overview) : Type 0 where
  pub facts : List Spelled
  pub says : reading text ≡ Ok (procap_of r.request r.from r.to facts)
  pub counted : length facts ≡ r.lines.count
  pub few : r.lines.count ≤ most_facts
  pub on : OnLines text (take r.lines.count r.lines.places) facts

-- A procap that is read is seen so.
procap_seen : (text : List ℕ) (p : Procap) (r : Overview) → text_in text ≡ Some p → Some r ≡ overview_of text (Ok p) → Seen text r
unfolding reading or_else overview_of places_in pad
procap_seen text p r e s = subst (Seen text) (sym (same_Some _ _ s)) seen
  where
    seen : Seen text (record { request = p.request; from = p.from; to = p.to; lines = record { count = p.count; places = places_in text (listed p) } })
    seen =
        let (h, same) = what_reads_is_written text p e in
        let start = length text - length (facts_text (listed p)) in
        let count : length (line_starts start (listed p)) ≡ p.count = starts_length (listed p) start ∙ listed_count p h in
        record {
          facts = listed p;
          says = rw (e, rebuilt p h);
          counted = listed_count p h;
          few = h.few_facts;
          on = rw (take_at (line_starts start (listed p)) _ p.count count) (starts_on text (listed p) (listed_in_form p h) (facts_last text p same));
        }

-- Where nothing is seen the bytes are no text; else the text says what was seen.
module _ (text : List ℕ) where
  pub overview_missing : ◌≡◌ {A = Option Overview} None (overview_of text (reading text)) → reading text ≡ Err ProcapMalformed
  unfolding reading or_else overview_of
  overview_missing e = by (text_in text) e
    where
      by : (o : Option Procap) → ◌≡◌ {A = Option Overview} None (overview_of text (or_else ProcapMalformed o)) → or_else ProcapMalformed o ≡ Err ProcapMalformed
      by None e = refl
      by (Some p) e = cc

  pub overview_found : (r : Overview) → Some r ≡ overview_of text (reading text) → Seen text r
  unfolding reading or_else overview_of
  overview_found r e = by (text_in text) refl e
    where
      by : (o : Option Procap) → text_in text ≡ o → Some r ≡ overview_of text (or_else ProcapMalformed o) → Seen text r
      by None t e = cc
      by (Some p) t e = procap_seen text p r t e
