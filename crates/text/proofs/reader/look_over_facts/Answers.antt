-- The count and the lines of facts are read one after another, up to the end of the text. `lines_at` tells whether so many lines
-- stand there, no two of them alike, and where they do, their places are what is seen.
use Prim.Native.Nat.{ℕ, ◌-◌}
use mathlib.Core.Path.{◌≡◌, sym, ap, ◌∙◌}
use mathlib.Core.List.{List}
use Rattle.std.specs.Prelude.{Some}
use native.Mathlib.Omega.{arith}
use lib.ListN.{length}
use Rattle.procap.specs.Lists.{pad}
use Rattle.procap.specs.Facts.{Spelled}
use Rattle.procap.specs.Procaps.{most_facts}
use Rattle.procap.specs.Bytes.{many}
use Rattle.procap.proofs.Readers.{so_read}
use Rattle.text.specs.Text.{facts_text}
use Rattle.text.specs.Reader.{fact_line}
use Rattle.text.specs.Overviews.{line_starts, places_in}
use Rattle.text.proofs.Spellings.{facts_read}
use Rattle.text.proofs.Readings.{no_count, no_such_lines, bytes_left, procap_whole, none_whole, none_seen, some_seen}
use Rattle.text.proofs.reader.look_over_facts.Goals as goal

-- Where the lines of facts from a place on are the last of the text, it is as far before its end as they are long.
to_the_last : (text : List ℕ) (start count : ℕ) (fs : List Spelled) (end : ℕ) → many (fact_line text) count start ≡ Some (fs, end) → end ≡ length text
    → pad most_facts 0 (line_starts start fs) ≡ places_in text fs
unfolding places_in
to_the_last text start count fs end reads last =
    let taken = (so_read _ reads (facts_read count start)).0 in
    let first : start ≡ length text - length (facts_text fs) = omega (arith, taken.place) in
    ap (λ at. pad most_facts 0 (line_starts at fs)) first

pub returns-in_err-count : goal.returns-in_err-count
returns-in_err-count c =
    c.from_residual.ensures ∙ none_seen _ _ (none_whole _ _ (no_count _ _ _ _ _ (sym c.in_err-count.ensures.reads)))

pub returns-in_err-lines : goal.returns-in_err-lines
returns-in_err-lines c =
    c.from_residual-in_err-lines.ensures
    ∙ none_seen _ _ (none_whole _ _ (no_such_lines _ _ _ _ _ _ _ (sym c.in_ok-count.ensures.reads) c.in_err-lines.ensures))

pub returns-then-end-text : goal.returns-then-end-text
returns-then-end-text c =
    none_seen _ _ (bytes_left _ _ _ _ _ _ _ (sym c.in_ok-count.ensures.reads) _ _ c.in_ok-lines.ensures.1 (λ e. omega arith))

pub returns : goal.returns
returns c =
    let found = c.in_ok-lines.ensures in
    let places = to_the_last _ _ _ found.0 _ found.1 (omega arith) in
    some_seen _ _ _ _ _ _ found.0
    (procap_whole _ _ _ _ _ _ _ (sym c.in_ok-count.ensures.reads) _ _ found.1 found.2 (omega arith))
    (found.4 ∙ λ i. record { count = sym found.3 i; places = places i })
