-- The door on a text: one that does not read has its answer from the reader; of one that does, what was seen of it and the facts on its
-- lines make a procap that can be written, and the door on the text is the door on that.
use Prim.Native.Nat.{ℕ, suc, ◌<◌}
use mathlib.Core.Path.{◌≡◌, refl, sym, ap, ◌∙◌}
use mathlib.Core.List.{List, ◌∷◌}
use Rattle.std.specs.Prelude.{Err, None, Ok, Option, Result, Some, ok_or}
use native.Mathlib.Omega.{arith}
use lib.ListN.{length, get_or, drop}
use lib.Seq.{drop-cons}
use Rattle.procap.specs.Facts.{Spelled, spelled}
use Rattle.procap.specs.Procaps.{procap_of}
use Rattle.procap.specs.Writable.{Writable}
use Rattle.procap.specs.Answers.{number_of, place_of}
use Rattle.procap.specs.Outcome.{Outcome, go_on, or_else, answer_of, procap_handed}
use Rattle.procap.specs.declared.answer.Answer.{Answer}
use Rattle.procap.specs.declared.answer.Answer.TheVariants.{ProcapMalformed}
use Rattle.procap.specs.declared.fact.Fact.{Fact}
use Rattle.procap.specs.declared.procap.Request.{Request}
use Rattle.procap.specs.declared.procap.Procap.{Procap}
use Rattle.procap.proofs.Granted.{was_there, goes_on}
use Rattle.procap.proofs.Listed.{spelled_back, listed_back}
use Rattle.text.specs.Reader.{text_in}
use Rattle.text.specs.Places.{OnLines, FactOn}
use Rattle.text.specs.Calls.{reading}
use Rattle.text.proofs.OnLines.{beyond, fact_in, on_length, on_at}
use Rattle.text.specs.Overviews.{overview_of}
use Rattle.text.specs.declared.reader.Overview.{Overview}
use Rattle.text.proofs.Overviews.{Seen, overview_missing, overview_found}
use Rattle.text.proofs.Theorems.{what_reads_is_written}
use Rattle.door.specs.Door.{NamesMissing, GivesFacts, before_facts, opening, opening_text}
use Rattle.door.proofs.Answering.{places_are_small}
use Rattle.door.proofs.BeforeFacts.{stays_refused, by_what_comes_before, by_the_facts}

-- ── Read into a procap ──

module _ (text : List ℕ) (answer : Answer) (given : answer ≡ answer_of (reading text)) where
  -- The reader's answer is the door's where it is no 0.
  pub unread : (r : Request) (m : ℕ) (state : List ℕ) → (number_of answer ≡ 0 → ⊥) → answer ≡ answer_of (opening_text text r m state)
  unfolding opening_text
  unread r m state n = stays_refused (reading text) (λ p. opening p r m state) answer given n

  module _ (p : Procap) (handed : p ≡ procap_handed (reading text)) (zero : number_of answer ≡ 0) where
    -- Where it is 0 the text says the procap that is handed over.
    says : text_in text ≡ Some p
    unfolding reading or_else answer_of procap_handed
    says = by (text_in text) given handed
      where
        by : (o : Option Procap) → answer ≡ answer_of (or_else ProcapMalformed o) → p ≡ procap_handed (or_else ProcapMalformed o) → o ≡ Some p
        by None e f = let wrong = sym zero ∙ ap number_of e in absurd (omega (arith, wrong))
        by (Some q) e f = ap Some (sym f)

    -- So the door on the text is the door on it.
    pub read_opens : (r : Request) (m : ℕ) (state : List ℕ) → opening_text text r m state ≡ opening p r m state
    unfolding opening_text reading or_else go_on
    read_opens r m state = rw says refl

-- ── Looked over ──

-- Where nothing is seen that is the answer, and the bytes are no text; else the text says what was seen.
module _ (text : List ℕ) (o : Option Overview) (looked : o ≡ overview_of text (reading text)) where
  pub not_seen : (answer : Answer) → ◌≡◌ {A = Result Overview Answer} (Err answer) (ok_or o ProcapMalformed)
      → (answer ≡ ProcapMalformed) × (reading text ≡ Err ProcapMalformed)
  not_seen answer e = by o looked e
    where
      by : (o : Option Overview) → o ≡ overview_of text (reading text) → ◌≡◌ {A = Result Overview Answer} (Err answer) (ok_or o ProcapMalformed)
          → (answer ≡ ProcapMalformed) × (reading text ≡ Err ProcapMalformed)
      by None l e = (cc, overview_missing text l)
      by (Some r) l e = cc

  pub seen_there : (r : Overview) → ◌≡◌ {A = Result Overview Answer} (Ok r) (ok_or o ProcapMalformed) → Seen text r
  seen_there r e = by o looked e
    where
      by : (o : Option Overview) → o ≡ overview_of text (reading text) → ◌≡◌ {A = Result Overview Answer} (Ok r) (ok_or o ProcapMalformed) → Seen text r
      by None l e = cc
      by (Some s) l e = let same : s ≡ r = cc in overview_found text r (ap Some (sym same) ∙ l)

module _ (text : List ℕ) (r : Request) (m : ℕ) (state : List ℕ) where
  -- Bytes that are no text are 12.
  pub no_text : reading text ≡ Err ProcapMalformed → opening_text text r m state ≡ Err ProcapMalformed
  unfolding opening_text go_on
  no_text e = rw e refl

  -- No place of the door's is above what the lower half of the number holds.
  pub small_place : (answer : Answer) → answer ≡ answer_of (opening_text text r m state) → place_of answer < 256
  small_place answer e = rw e (omega (arith, places_are_small text r m state))

  module _ (asked : Request) (from to : ℕ) (fs : List Spelled) (reads : reading text ≡ Ok (procap_of asked from to fs)) where
    -- What was seen can be written, since it was read.
    seen_writable : Writable (procap_of asked from to fs)
    unfolding reading
    seen_writable = (what_reads_is_written text (procap_of asked from to fs) (was_there ProcapMalformed (text_in text) (procap_of asked from to fs) reads)).0

    -- The door on the text is the door on it.
    seen_opens : opening_text text r m state ≡ opening (procap_of asked from to fs) r m state
    unfolding opening_text
    seen_opens = goes_on (reading text) (λ p. opening p r m state) (procap_of asked from to fs) reads

    -- What stops the press before the facts is what the door comes to,
    pub seen_before : (answer : Answer) → ◌≡◌ {A = Outcome (Unit {0})} (Err answer) (go_on (before_facts asked from to r m state) (λ _. Ok tt))
        → opening_text text r m state ≡ Err answer
    unfolding procap_of
    seen_before answer e = seen_opens ∙ by_what_comes_before (procap_of asked from to fs) seen_writable r m state answer e

    -- and else the facts on the lines say it.
    pub seen_by_the_facts : ◌≡◌ {A = Outcome (Unit {0})} (Ok tt) (go_on (before_facts asked from to r m state) (λ _. Ok tt)) → (x : Outcome (Unit {0}))
        → NamesMissing m state fs x → x ≡ opening_text text r m state
    unfolding procap_of
    seen_by_the_facts e x named =
        by_the_facts (procap_of asked from to fs) seen_writable r m state e x (rw (listed_back asked from to fs) named) ∙ sym seen_opens

-- The lines give the facts that stand on them.
pub gives_on_lines : (text places : List ℕ) (fs : List Spelled) → OnLines text places fs → (gives : ℕ → Fact → Type 0)
    → ((i : ℕ) (f : Fact) → i < length places → gives i f → FactOn text (get_or places i 0) f) → GivesFacts gives (length places) fs
gives_on_lines text places fs on gives is =
    let c = on_length text places fs on in (
      c,
      λ i f h g.
          let line = on_at text places fs i h on in
          let same = ap spelled (is i f h g (fact_in fs i) line.0 line.1) ∙ spelled_back (fact_in fs i) in
          drop-cons fs i beyond (omega arith) ∙ ap (λ s. s ∷ drop (suc i) fs) (sym same),
    )
