-- The list grows by one at the most for each fact asked: so the facts listed and those that a walk still asks for are never more than they were.
use Prim.Native.Nat.{ℕ, ◌+◌, ◌≤◌}
use mathlib.Core.Path.{◌≡◌, ap}
use mathlib.Core.Logic.{ite}
use native.Mathlib.Omega.{arith}
use lib.ListN.{length, length-append}
use Rattle.procap.specs.Lists.{In}
use Rattle.procap.specs.Order.{decided}
use Rattle.procap.specs.Facts.{Spelled}
use Rattle.procap.specs.declared.time.Time.{Time}
use Rattle.procap.specs.declared.order.Decision.{Decision}
use Rattle.procap.specs.declared.order.Decision.TheVariants.{Holds, Fails, RaisesFrom, LowersTo}
use Rattle.procap.specs.Deciding.{in?, spelled?}
use Rattle.std.specs.Prelude.{Err, Ok}
use Rattle.procap.specs.Outcome.{Outcome, go_on}
use Rattle.bl.specs.Questions.{Question, at_most, holds, Walk, done, misfit, ask, cost, asks, ◌>>=◌}
use Rattle.bl.specs.Readings.{True, true?, fault, Kept, one_more, narrow, list_fact, learn, Reading, office, press, answered, run}
use Rattle.procap.proofs.Granted.{same_grant, no_grant}

-- ── One question ──

-- Where a question is granted, the list is longer by its cost at the most.
abbrev Grows : Kept → Question → Outcome Kept → Type 0
Grows s x (Ok s') = length s'.facts ≤ length s.facts + cost x
Grows s x (Err answer) = Unit {0}

list_fact_grows : (f : Spelled) (s : Kept) → Grows s (holds f) (Ok (list_fact f s))
unfolding list_fact cost
list_fact_grows f s = by (in? spelled? f s.facts)
  where
    by : (d : Dec (In f s.facts)) → length (ite d s (one_more f s)).facts ≤ length s.facts + 1
    by (yes i) = omega arith
    by (no n) = simp length-append (omega arith)

narrow_grows : (t u : Time) (q : ℕ) (s : Kept) (d : Decision) → Grows s (at_most t u) (narrow q s d)
unfolding narrow cost
narrow_grows t u q s Holds = omega arith
narrow_grows t u q s Fails = tt
narrow_grows t u q s (RaisesFrom k) = omega arith
narrow_grows t u q s (LowersTo k) = omega arith

learn_grows : (x : Question) (q : ℕ) (s : Kept) → Grows s x (learn x q s)
unfolding learn
learn_grows (at_most t u) q s = narrow_grows t u q s (decided t u)
learn_grows (holds f) q s = list_fact_grows f s

-- At a press nothing is listed.
answered_grows : (o : Reading) (x : Question) (q : ℕ) (s : Kept) → Grows s x (answered o x q s)
unfolding answered
answered_grows office x q s = learn_grows x q s
answered_grows (press m σ) x q s = by (true? m σ x)
  where
    by : (d : Dec (True m σ x)) → Grows s x (ite d (Ok s) (Err (fault x q)))
    by (yes h) = omega arith
    by (no n) = tt

-- A question that the walk went on from left a list that is longer by its cost at the most.
question_granted : {A : Type 0} (o : Reading) (x : Question) (q : ℕ) (w : Walk A) (s : Kept) (r : A × Kept) → run o (ask x q w) s ≡ Ok r
    → (s' : Kept) × (length s'.facts ≤ length s.facts + cost x) × (run o w s' ≡ Ok r)
unfolding run go_on
question_granted o x q w s r e = by (answered o x q s) (answered_grows o x q s) e
  where
    by : (l : Outcome Kept) → Grows s x l → go_on l (λ s'. run o w s') ≡ Ok r
        → (s' : Kept) × (length s'.facts ≤ length s.facts + cost x) × (run o w s' ≡ Ok r)
    by (Ok s') grows e = (s', grows, e)
    by (Err answer) grows e = no_grant e

-- ── A walk ──

-- The list after a walk is no longer than before by more than the facts that it asks for.
pub list_grows : {A : Type 0} (o : Reading) (w : Walk A) (s : Kept) (a : A) (s' : Kept) → run o w s ≡ Ok (a, s')
    → length s'.facts ≤ length s.facts + asks w
unfolding run asks
list_grows o (done b) s a s' e = let d : s ≡ s' = ap (λ r. r.1) (same_grant e) in rw (← d) (omega arith)
list_grows o (misfit q) s a s' e = no_grant e
list_grows o (ask x q w) s a s' e =
    let (s₁, grows, rest) = question_granted o x q w s (a, s') e in
    omega (arith, grows, list_grows o w s₁ a s' rest)

-- A walk that came to a value and then another ask for the facts of both.
pub asks_both : {A B : Type 0} (o : Reading) (w : Walk A) (g : A → Walk B) (s : Kept) (a : A) (s' : Kept) → run o w s ≡ Ok (a, s')
    → asks (w >>= g) ≡ asks w + asks (g a)
unfolding run asks ◌>>=◌
asks_both o (done b) g s a s' e = let d : b ≡ a = ap (λ r. r.0) (same_grant e) in rw d (omega arith)
asks_both o (misfit q) g s a s' e = no_grant e
asks_both o (ask x q w) g s a s' e =
    let (s₁, _, rest) = question_granted o x q w s (a, s') e in
    omega (arith, asks_both o w g s₁ a s' rest)

-- A walk asks for no more facts than it does with another after it.
pub asks_first : {A B : Type 0} (w : Walk A) (g : A → Walk B) → asks w ≤ asks (w >>= g)
unfolding asks ◌>>=◌
asks_first (done a) g = omega arith
asks_first (misfit q) g = omega arith
asks_first (ask x q w) g = omega (arith, asks_first w g)
