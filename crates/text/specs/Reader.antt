-- [Text] What reads as a procap. A reader goes from a place to a value and the place after it.
use Rattle.std.specs.Prelude.{ℕ, zero, suc, List, [], ◌∷◌, leb, eqb, None, Option, Some}
use Prim.Native.Char.{code}
use Rattle.procap.specs.Tells.{pick}
use Rattle.procap.specs.Times.{latest}
use Rattle.procap.specs.Facts.{Spelled, most_terms}
use Rattle.procap.specs.Procaps.{most_facts, version_one, procap_of}
use Rattle.procap.specs.Writable.{largest_name}
use Rattle.procap.specs.Bytes.{Reader, ◌>>=◌, give, present, fail, ensure, many, byte, whole}
use Rattle.procap.specs.Deciding.{told, distinct?, spelled?}
use Rattle.procap.specs.declared.time.Time.TheVariants.{Moment, MinusInfinity, PlusInfinity, Ctime}
use Rattle.procap.specs.declared.fact.Term.{Term}
use Rattle.procap.specs.declared.fact.Term.TheVariants.{Name, When}
use Rattle.procap.specs.declared.tag.TermTag.{TermTag}
use Rattle.procap.specs.declared.tag.TermTag.TheVariants.{NameTag, MomentTag, MinusInfinityTag, PlusInfinityTag, CtimeTag, VariableTag}
use Rattle.procap.specs.declared.procap.Request.{Request}
use Rattle.procap.specs.declared.procap.Procap.{Procap}
use Rattle.text.specs.Words.{bytes_of}
use Rattle.text.specs.Line.{literal, number_to, line_to}
use Rattle.text.specs.LinesInARow.{uncounted}
use Rattle.text.specs.RequestLines.{request_lines}

-- [Text] The term that a letter or a sign announces.
abbrev pub term_letter : ℕ → Option TermTag
term_letter b =
    pick (eqb b (code "n")) (Some NameTag)
    (pick (eqb b (code "t")) (Some MomentTag)
    (pick (eqb b (code "-")) (Some MinusInfinityTag)
    (pick (eqb b (code "+")) (Some PlusInfinityTag)
    (pick (eqb b (code "c")) (Some CtimeTag) None))))

-- What may stand after a number or a term: a space before the next term, or the line's end.
pub data Mark : Type 0 where
  space : Mark
  line_end : Mark
  no_mark : Mark

abbrev pub mark_of : ℕ → Mark
mark_of b = pick (eqb b (code " ")) space (pick (eqb b (code "\n")) line_end no_mark)

module _ (bytes : List ℕ) where
  -- [Text] A term by its letter: names and moments have their ranges.
  unfoldable pub term_with : TermTag → Reader Term
  term_with NameTag = do
    n ← number_to bytes largest_name
    give (Name n)
  term_with MomentTag = do
    k ← number_to bytes latest
    give (When (Moment k))
  term_with MinusInfinityTag = give (When MinusInfinity)
  term_with PlusInfinityTag = give (When PlusInfinity)
  term_with CtimeTag = give (When Ctime)
  term_with VariableTag = fail

  -- A term.
  unfoldable pub term : Reader Term
  term = do
    b ← byte bytes
    tag ← present (term_letter b)
    term_with tag

  -- Nothing more at the line's end; after a space a term and the rest.
  unfoldable pub more_terms : Reader (List Term) → Mark → Reader (List Term)
  more_terms rest line_end = give []
  more_terms rest no_mark = fail
  more_terms rest space = do
    t ← term
    ts ← rest
    give (t ∷ ts)

  -- Terms up to the line's end, each after one space: no more than n.
  unfoldable pub terms : ℕ → Reader (List Term)
  terms zero = do
    _ ← literal bytes (bytes_of "\n")
    give []
  terms (suc n) = do
    b ← byte bytes
    more_terms (terms n) (mark_of b)

  -- [Text; D51] A fact's line.
  unfoldable pub fact_line : Reader Spelled
  fact_line = do
    _ ← literal bytes (bytes_of "fact=")
    p ← number_to bytes largest_name
    ts ← terms most_terms
    give (p, ts)

  -- [Text] The two lines of moments, in order.
  unfoldable pub moment_lines : Reader (ℕ × ℕ)
  moment_lines = do
    from ← line_to bytes (bytes_of "from=") latest
    to ← line_to bytes (bytes_of "to=") latest
    _ ← ensure (leb from to)
    give (from, to)

  -- [Text] The lines of facts, few and none repeated, and the procap of these with a request and two moments.
  unfoldable pub procap_with : Request → ℕ → ℕ → Reader Procap
  procap_with r from to = do
    count ← line_to bytes (bytes_of "facts=") most_facts
    fs ← many fact_line count
    _ ← ensure (told (distinct? spelled? fs))
    give (procap_of r from to fs)

  -- [Text; D50] All lines.
  unfoldable pub procap_lines : Reader Procap
  procap_lines = do
    version ← line_to bytes (bytes_of "procap=") version_one
    _ ← ensure (eqb version version_one)
    r ← uncounted (request_lines bytes)
    m ← moment_lines
    procap_with r m.0 m.1

-- [Text] The procap that a text says, with nothing after it; `none` for what is no text.
unfoldable pub text_in : List ℕ → Option Procap
text_in bytes = whole bytes (procap_lines bytes)
