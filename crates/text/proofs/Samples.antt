-- Texts at the edges of what reads, and what is no text, computed: each says what the page says.
use Prim.Native.Nat.{ℕ}
use Prim.Native.String.{String}
use mathlib.Core.Path.{◌≡◌, refl}
use mathlib.Core.List.{List, [], ◌∷◌, ◌++◌}
use Rattle.std.specs.Prelude.{None, Option, Some}
use mathlib.Core.Logic.Dec
use native.Mathlib.Decide.{ℕ_discrete}
use Rattle.procap.specs.Lists.{All, pad}
use Rattle.procap.specs.Facts.{Spelled, fact_of}
use Rattle.procap.specs.Procaps.{procap_of}
use Rattle.procap.specs.Outcome.{go_on}
use Rattle.procap.specs.Bytes.{then, present, ensure, many, big_endian, next, number, to_the_end, whole}
use Rattle.procap.specs.Deciding.{told, goes_with?, in?, distinct?, lists?, terms?, spelled?}
use Rattle.procap.specs.declared.time.Time.TheVariants.{Moment, MinusInfinity, PlusInfinity, Ctime}
use Rattle.procap.specs.declared.fact.Term.TheVariants.{Name, When}
use Rattle.procap.specs.declared.procap.Procap.{Procap}
use Rattle.text.specs.Words.{bytes_of}
use Rattle.text.specs.Numbers.{is_digit, while_digit, leading_digits, value, one_spelling}
use Rattle.text.specs.Line.{literal, digits, number_to, line_to}
use Rattle.text.specs.LinesInARow.{at_line, said}
use Rattle.text.specs.RequestLines.{request_lines}
use Rattle.text.specs.Reader.{term_with, term, more_terms, terms, fact_line, moment_lines, procap_with, procap_lines, text_in}

-- To unfold this is to unfold all that its line names.
unfoldable pub computes : Unit {0}
unfolding All pad Dec.and Dec.not ℕ_discrete fact_of procap_of then present ensure many big_endian next number to_the_end whole go_on told goes_with? in? distinct? lists? terms? spelled? is_digit while_digit leading_digits value one_spelling literal digits number_to line_to term_with term more_terms terms fact_line at_line said request_lines moment_lines procap_with procap_lines text_in
computes = tt

-- A text, and the procap that it says, or none.
pub record Sample : Type 0 where
  pub text : List ℕ
  pub says : Option Procap

abbrev pub ComesOut : Sample → Type 0
ComesOut x = text_in x.text ≡ x.says

-- The procap for 2, 7, 9 from 1000 to 2000 that lists these facts, and the lines of such a text before those of facts.
abbrev pub listing : List Spelled → Procap
listing fs = procap_of (record { who = 2; what = 7; right = 9 }) 1000 2000 fs

abbrev pub with_lines : String → List ℕ
with_lines facts = bytes_of "procap=1\nwho=2\nwhat=7\nright=9\nfrom=1000\nto=2000\n" ++ bytes_of facts

abbrev pub no_text : List ℕ → Sample
no_text text = record { text = text; says = None }

abbrev pub samples : List Sample
samples =
    -- Case P's.
    record { text = bytes_of "procap=1\nwho=2\nwhat=7\nright=9\nfrom=1000\nto=2000\nfacts=1\nfact=200 n7\n"; says = Some (listing ((200, Name 7 ∷ []) ∷ [])) }
    ∷
    -- No facts.
    record { text = with_lines "facts=0\n"; says = Some (listing []) }
    ∷
    -- The other terms.
    record {
      text = with_lines "facts=1\nfact=201 - + c t1500\n";
      says = Some (listing ((201, When MinusInfinity ∷ When PlusInfinity ∷ When Ctime ∷ When (Moment 1500) ∷ []) ∷ []));
    }
    ∷
    -- The same predicate with no terms, and with the largest.
    record {
      text = with_lines "facts=2\nfact=200\nfact=200 n65535 t1099511627775\n";
      says = Some (listing ((200, []) ∷ (200, Name 65_535 ∷ When (Moment 1_099_511_627_775) ∷ []) ∷ []));
    }
    ∷
    -- Nothing.
    no_text []
    ∷
    -- No line feed at the end, one too many, and a carriage return before one.
    no_text (with_lines "facts=0")
    ∷
    no_text (with_lines "facts=0\n\n")
    ∷
    no_text (with_lines "facts=0\r\n")
    ∷
    -- A zero in front: of a name, of a moment, and of the version.
    no_text (bytes_of "procap=1\nwho=02\nwhat=7\nright=9\nfrom=1000\nto=2000\nfacts=0\n")
    ∷
    no_text (with_lines "facts=1\nfact=200 t007\n")
    ∷
    no_text (bytes_of "procap=01\nwho=2\nwhat=7\nright=9\nfrom=1000\nto=2000\nfacts=0\n")
    ∷
    -- Another version.
    no_text (bytes_of "procap=2\nwho=2\nwhat=7\nright=9\nfrom=1000\nto=2000\nfacts=0\n")
    ∷
    -- From after to.
    no_text (bytes_of "procap=1\nwho=2\nwhat=7\nright=9\nfrom=2001\nto=2000\nfacts=0\n")
    ∷
    -- To above the latest.
    no_text (bytes_of "procap=1\nwho=2\nwhat=7\nright=9\nfrom=1000\nto=1099511627776\nfacts=0\n")
    ∷
    -- A name above the largest.
    no_text (with_lines "facts=1\nfact=200 n65536\n")
    ∷
    -- Five terms.
    no_text (with_lines "facts=1\nfact=200 n1 n2 n3 n4 n5\n")
    ∷
    -- A fact twice.
    no_text (with_lines "facts=2\nfact=200 n7\nfact=200 n7\n")
    ∷
    -- Fewer facts than counted, and more than may be.
    no_text (with_lines "facts=2\nfact=200 n7\n")
    ∷
    no_text (with_lines "facts=17\n")
    ∷
    []

pub samples_come_out : All ComesOut samples
unfolding computes
samples_come_out = (refl, (refl, (refl, (refl, (refl, (refl, (refl, (refl, (refl, (refl, (refl, (refl, (refl, (refl, (refl, (refl, (refl, (refl, (refl, tt)))))))))))))))))))
