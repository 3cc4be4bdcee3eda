-- [Text] How a procap is spelled, and how a refusal is.
use Rattle.std.specs.Prelude.{ℕ, List, [], ◌∷◌, ◌++◌}
use Rattle.procap.specs.Facts.{Spelled}
use Rattle.procap.specs.Procaps.{listed}
use Rattle.procap.specs.Answers.{number_of, place_of}
use Rattle.procap.specs.declared.answer.Answer.{Answer}
use Rattle.procap.specs.declared.time.Time.TheVariants.{Moment, MinusInfinity, PlusInfinity, Ctime}
use Rattle.procap.specs.declared.fact.Term.{Term}
use Rattle.procap.specs.declared.fact.Term.TheVariants.{Name, When}
use Rattle.procap.specs.declared.procap.Procap.{Procap}
use Rattle.text.specs.Words.{bytes_of}
use Rattle.text.specs.Numbers.{decimal}

-- [Text] A line: its word, its number, one line feed.
unfoldable pub line : List ℕ → ℕ → List ℕ
line word n = word ++ decimal n ++ bytes_of "\n"

-- [Text] A term: a letter and a number, or a sign.
unfoldable pub term_text : Term → List ℕ
term_text (Name n) = bytes_of "n" ++ decimal n
term_text (When (Moment k)) = bytes_of "t" ++ decimal k
term_text (When MinusInfinity) = bytes_of "-"
term_text (When PlusInfinity) = bytes_of "+"
term_text (When Ctime) = bytes_of "c"

-- [Text] Terms, each behind one space.
unfoldable pub terms_text : List Term → List ℕ
terms_text [] = []
terms_text (t ∷ ts) = bytes_of " " ++ term_text t ++ terms_text ts

-- [Text] A fact's line: its word, its predicate, its terms, one line feed.
unfoldable pub fact_text : Spelled → List ℕ
fact_text f = bytes_of "fact=" ++ decimal f.0 ++ terms_text f.1 ++ bytes_of "\n"

-- The lines of facts, in a row.
unfoldable pub facts_text : List Spelled → List ℕ
facts_text [] = []
facts_text (f ∷ fs) = fact_text f ++ facts_text fs

-- [Text] The text of a procap: seven lines, and one for each fact that it lists.
unfoldable pub text_of : Procap → List ℕ
text_of p =
    line (bytes_of "procap=") p.version
    ++ line (bytes_of "who=") p.request.who
    ++ line (bytes_of "what=") p.request.what
    ++ line (bytes_of "right=") p.request.right
    ++ line (bytes_of "from=") p.from
    ++ line (bytes_of "to=") p.to
    ++ line (bytes_of "facts=") p.count
    ++ facts_text (listed p)

-- [Program] What is printed for a refusal: its number and its place, on two lines.
unfoldable pub refusal_text : Answer → List ℕ
refusal_text answer = line (bytes_of "refused=") (number_of answer) ++ line (bytes_of "place=") (place_of answer)
