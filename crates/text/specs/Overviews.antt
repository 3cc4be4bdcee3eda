-- What is seen of a text that is looked over: what it says but for its facts, and where the lines of these begin.
use Rattle.std.specs.Prelude.{ℕ, ◌+◌, ◌-◌, List, [], ◌∷◌, length, Err, None, Ok, Option, Some}
use Rattle.procap.specs.Lists.{pad}
use Rattle.procap.specs.Facts.{Spelled}
use Rattle.procap.specs.Procaps.{most_facts, listed}
use Rattle.procap.specs.Outcome.{Outcome}
use Rattle.procap.specs.declared.procap.Procap.{Procap}
use Rattle.text.specs.Text.{fact_text, facts_text}
use Rattle.text.specs.declared.reader.Overview.{Overview}

-- Where the lines of these facts begin, from a place on: each where the one before it ends.
unfoldable pub line_starts : ℕ → List Spelled → List ℕ
line_starts at [] = []
line_starts at (f ∷ fs) = at ∷ line_starts (at + length (fact_text f)) fs

-- Where the lines of a text's facts begin, which are its last ones, with zeros past them.
unfoldable pub places_in : List ℕ → List Spelled → List ℕ
places_in text fs = pad most_facts 0 (line_starts (length text - length (facts_text fs)) fs)

-- What is seen of a text that reads as a procap: its request, its moments, how many facts it lists and where their lines begin.
unfoldable pub overview_of : List ℕ → Outcome Procap → Option Overview
overview_of text (Err answer) = None
overview_of text (Ok p) =
    Some (record { request = p.request; from = p.from; to = p.to; lines = record { count = p.count; places = places_in text (listed p) } })
