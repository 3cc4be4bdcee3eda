-- What the questions of a walk leave of the ledger, and of the facts that are listed beside it.
use Rattle.std.specs.Prelude.{ℕ, ◌-◌, ◌≤◌, min, max, ◌≡◌, List, [], ◌∷◌, ◌++◌, length, map, eqb}
use Rattle.std.specs.Borrow.{MutBor}
use denote.Triple.Both.{Both}
use Rattle.std.proofs.Math.Logic.{ite}
use Rattle.std.proofs.Math.Decide.{dec_lt}
use Rattle.procap.specs.Lists.{pad}
use Rattle.procap.specs.Tells.{pick}
use Rattle.procap.specs.Deciding.{in?, spelled?, at_most?, holds_at?}
use Rattle.procap.specs.Lent.{Lent}
use Rattle.procap.specs.Order.{decided}
use Rattle.procap.specs.Facts.{spelled, fact_of, no_fact, most_terms}
use Rattle.procap.specs.Procaps.{most_facts, version_one}
use Rattle.procap.specs.States.{stated}
use Rattle.procap.specs.declared.time.Time.{Time}
use Rattle.procap.specs.declared.order.Decision.{Decision}
use Rattle.procap.specs.declared.order.Decision.TheVariants.{Holds, Fails, RaisesFrom, LowersTo}
use Rattle.procap.specs.declared.answer.Answer.TheVariants.{OrderFalse, FactMissing}
use Rattle.procap.specs.declared.fact.Fact.{Fact}
use Rattle.procap.specs.declared.procap.Request.{Request}
use Rattle.procap.specs.declared.procap.Procap.{Procap}
use Rattle.bl.specs.Questions.{ask_fact}
use Rattle.ledger.specs.declared.Ledger.{Ledger}
use Rattle.ledger.specs.Books.{Book, book, Sound, Gives, keeping, stopped_by, facts_said}

-- The list of facts that is lent to a call to be written.
abbrev pub ListLent : Type 0
ListLent = Both (MutBor (List Fact)) (MutBor (List Fact))

-- [Readings, verify] What the office's decision about an order leaves of a ledger's moments; one that is false stops it by 4.
unfoldable pub narrowed_by : Ledger → ℕ → Decision → Ledger
narrowed_by l q Holds = l
narrowed_by l q Fails = stopped_by (OrderFalse q) l
narrowed_by l q (RaisesFrom k) = keeping l (max l.from k) l.to
narrowed_by l q (LowersTo k) = keeping l l.from (min l.to k)

-- What a question leaves: where the ledger has stopped, what there was; else by where it is read, at the office or at a press.
unfoldable pub asked_by : {A : Type 0} → Ledger → A → A → A → A
asked_by l was at_office at_press = pick (eqb l.number 0) (pick (eqb l.press 0) at_office at_press) was

-- The ledger after the question of an order: narrowed at the office; at a press as it was where the order holds, and else stopped by 4.
unfoldable pub order_asked : Ledger → ℕ → Time → Time → Ledger
order_asked l q t u = asked_by l l (narrowed_by l q (decided t u)) (ite (at_most? (l.press - 1) t u) l (stopped_by (OrderFalse q) l))

-- The list after the office is asked for a fact, which goes to the end, unless it stands there or there is no room for it.
unfoldable pub fact_listed : List Fact → Fact → List Fact
fact_listed list f = ite (dec_lt (length list) most_facts) (ite (in? spelled? (spelled f) (map spelled list)) list (list ++ (f ∷ []))) list

-- The book after the question of a fact: listed at the office; at a press as it was where the fact holds, and else stopped by 10.
unfoldable pub fact_asked : List ℕ → List Fact → Ledger → ℕ → Fact → Book
fact_asked state list l q f =
    asked_by l (book l list) (book l (fact_listed list f))
    (ite (holds_at? (l.press - 1) (facts_said (stated state)) (spelled f)) (book l list) (book (stopped_by (FactMissing q) l) list))

-- The call leads where the question of the fact does, for a fact of few terms with zeros past them.
abbrev pub AsksFact : Lent → ListLent → Ledger → ℕ → Fact → Ledger → Type 0
AsksFact state facts l offset f r =
    Sound (book l facts.entry.now) → f ≡ fact_of (spelled f) → f.count ≤ most_terms
    → Gives state.entry.now (book l facts.entry.now) (ask_fact offset (spelled f)) (book r facts.exit.now) tt

-- The procap for a request of a ledger and its list, with no facts past those that are listed.
abbrev pub held_procap : Request → Ledger → List Fact → Procap
held_procap request l list = record {
  version = version_one;
  request = request;
  from = l.from;
  to = l.to;
  count = length list;
  facts = pad most_facts no_fact list;
}
