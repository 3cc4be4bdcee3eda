-- No text is longer than 1,223 bytes: the seven lines before the facts have 87 at the most, and each of sixteen facts 71.
-- And the two lines of a refusal have 38 at the most: 11 for its number, and 27 for its place.
use Prim.Native.Nat.{◌≤◌}
use mathlib.Core.Path.{ap}
use native.Mathlib.Omega.{arith}
use lib.ListN.{length, take, length-append, length-take}
use Rattle.procap.specs.Facts.{spelled}
use Rattle.procap.specs.Procaps.{listed}
use Rattle.procap.specs.Writable.{TermInForm, ArgumentInForm, FactInForm, Writable}
use Rattle.procap.specs.Answers.{number_of, place_of}
use Rattle.procap.specs.declared.answer.Answer.{Answer}
use Rattle.procap.specs.declared.time.Time.TheVariants.{Moment, MinusInfinity, PlusInfinity, Ctime}
use Rattle.procap.specs.declared.fact.Term.{Term}
use Rattle.procap.specs.declared.fact.Term.TheVariants.{Name, When}
use Rattle.procap.specs.declared.fact.Fact.{Fact}
use Rattle.procap.specs.declared.procap.Procap.{Procap}
use Rattle.procap.proofs.Joined.{joined_length}
use Rattle.procap.proofs.AnswerNumbers.{numbers_are_small}
use Rattle.text.specs.Text.{line, term_text, fact_text, text_of, refusal_text}
use Rattle.text.specs.Buffers.{most_text}
use Rattle.text.proofs.Decimals.{name_few, moment_few, count_few, version_few, answer_few, place_few}
use Rattle.text.proofs.Joined.{argument_text, line_of, terms_joined, facts_joined}

-- A term has at most 14 bytes.
term_few : (t : Term) → TermInForm t → length (term_text t) ≤ 14
unfolding term_text TermInForm
term_few (Name n) h = omega (arith, name_few n h)
term_few (When (Moment k)) h = omega (arith, moment_few k h)
term_few (When MinusInfinity) h = omega arith
term_few (When PlusInfinity) h = omega arith
term_few (When Ctime) h = omega arith

-- A fact of terms in form has a line of at most 71 bytes: 10 before its terms, 15 for each of four, and the line feed.
line_few : (f : Fact) → FactInForm f → length (line_of f) ≤ 71
unfolding fact_text spelled
line_few f h =
    let terms = take f.count f.arguments in
    let few = length-take f.count f.arguments in
    let each = joined_length argument_text ArgumentInForm 15 (λ a i. omega (arith, term_few a.term i)) terms h.terms_in_form in
    let whole = ap length (terms_joined terms) in
    simp length-append (omega (arith, name_few f.predicate h.predicate_in_range, h.few_terms))

-- [Text] No text is longer.
pub at_most_1223 : (p : Procap) → Writable p → length (text_of p) ≤ most_text
unfolding text_of line listed
at_most_1223 p h =
    let facts = take p.count p.facts in
    let few = length-take p.count p.facts in
    let each = joined_length line_of FactInForm 71 line_few facts h.facts_in_form in
    let whole = ap length (facts_joined facts) in
    let version = version_few p.version (omega arith) in
    let who = name_few p.request.who h.request_in_form.who_in_range in
    let what = name_few p.request.what h.request_in_form.what_in_range in
    let right = name_few p.request.right h.request_in_form.right_in_range in
    let from = moment_few p.from (omega arith) in
    let to = moment_few p.to (omega arith) in
    let count = count_few p.count h.few_facts in
    simp length-append (omega arith)

-- The two lines of a refusal, whatever its place.
pub refusal_at_most_38 : (answer : Answer) → length (refusal_text answer) ≤ 38
unfolding refusal_text line
refusal_at_most_38 answer =
    let number = answer_few (number_of answer) (numbers_are_small answer) in
    let place = place_few (place_of answer) in
    simp length-append (omega arith)
