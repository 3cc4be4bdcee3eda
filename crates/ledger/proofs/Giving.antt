-- Walks from book to book compose like the lines of a `do`, stopped books included. Room for all of it is room for its first line, and then for the rest.
use Prim.Native.Nat.{ℕ}
use native.Mathlib.Omega.{arith}
use mathlib.Core.Path.{◌≡◌, refl, sym, ap, ◌∙◌}
use mathlib.Core.List.{List}
use lib.ListN.{length-map}
use mathlib.Core.Logic.{◌⊎◌, inl, inr, ⊎_elim}
use Rattle.std.specs.Prelude.{Err, Ok}
use Rattle.procap.specs.Facts.{spelled}
use Rattle.procap.specs.Outcome.{Outcome, go_on}
use Rattle.procap.specs.declared.answer.Answer.{Answer}
use Rattle.procap.specs.declared.answer.Answer.TheVariants.{StepUnfit}
use Rattle.procap.specs.declared.fact.Fact.{Fact}
use Rattle.bl.specs.Questions.{Walk, done, misfit, ask, ◌>>=◌}
use Rattle.bl.specs.Readings as bl
use Rattle.bl.specs.Readings.{Kept, run, answered}
use Rattle.bl.proofs.ListGrows.{list_grows, asks_both, asks_first}
use Rattle.procap.proofs.Granted.{no_grant}
use Rattle.ledger.specs.declared.Ledger.{Ledger}
use Rattle.ledger.specs.Books.{Book, book, Sound, HasRoom, Gives, stop_of, reading_in, misfitted, stopped_by, kept_of, reading_of, resume, unless_stopped, GoesOn}
use Rattle.ledger.proofs.Stopping.{Stops, refusal_stops, stopped_now, stopped_before, stopped_reading}

-- ── One line of a `do` ──

-- What is gone on with twice is gone on with once.
go_on_twice : {A B C : Type 0} (o : Outcome A) (f : A → Outcome B) (g : B → Outcome C) → go_on (go_on o f) g ≡ go_on o (λ a. go_on (f a) g)
unfolding go_on
go_on_twice (Ok a) f g = refl
go_on_twice (Err answer) f g = refl

-- What is gone on with alike comes to the same.
go_on_alike : {A B : Type 0} (o : Outcome A) (f g : A → Outcome B) → ((a : A) → f a ≡ g a) → go_on o f ≡ go_on o g
unfolding go_on
go_on_alike (Ok a) f g e = e a
go_on_alike (Err answer) f g e = refl

-- A walk and then another is read as the one, and the other from what the one came to.
run_then : {A B : Type 0} (o : bl.Reading) (w : Walk A) (g : A → Walk B) (s : Kept)
    → run o (w >>= g) s ≡ go_on (run o w s) (λ r. run o (g r.0) r.1)
unfolding run ◌>>=◌ go_on
run_then o (done a) g s = refl
run_then o (misfit q) g s = refl
run_then o (ask x q w) g s =
    go_on_alike (answered o x q s) _ _ (λ s'. run_then o w g s') ∙ sym (go_on_twice (answered o x q s) (λ s'. run o w s') _)

-- The same from a stop.
stop_then : {A B : Type 0} (t : Outcome (Unit {0})) (o : bl.Reading) (w : Walk A) (g : A → Walk B) (s : Kept)
    → unless_stopped t (run o (w >>= g) s) ≡ go_on (unless_stopped t (run o w s)) (λ r. run o (g r.0) r.1)
unfolding unless_stopped go_on
stop_then (Ok tt) o w g s = run_then o w g s
stop_then (Err answer) o w g s = refl

-- Where a walk came to a value, the rest is read from there.
stop_done : {A B : Type 0} (t : Outcome (Unit {0})) (o : bl.Reading) (a : A) (g : A → Walk B) (s : Kept)
    → go_on (unless_stopped t (run o (done a) s)) (λ r. run o (g r.0) r.1) ≡ unless_stopped t (run o (g a) s)
unfolding unless_stopped run go_on
stop_done (Ok tt) o a g s = refl
stop_done (Err answer) o a g s = refl

-- Where the work of w led from the book b to m and the value a, the rest goes on from there.
resume_then : {A B : Type 0} (state : List ℕ) (b m : Book) (w : Walk A) (a : A) (g : A → Walk B)
    → Gives state b w m a → HasRoom b w → resume state b (w >>= g) ≡ resume state m (g a)
unfolding resume kept_of
resume_then state b m w a g h room =
    let o = reading_of state (reading_in b.ledger) in
    stop_then (stop_of b.ledger) o w g (kept_of b)
    ∙ ap (λ x. go_on x (λ r. run o (g r.0) r.1)) (sym (h.resumed room))
    ∙ rw h.same_reading (stop_done (stop_of m.ledger) o a g (kept_of m))

-- A stop that is a stop gives its answer.
pub stop_refused : {A : Type 0} (t : Outcome (Unit {0})) (answer : Answer) (o : Outcome A) → t ≡ Err answer → unless_stopped t o ≡ Err answer
unfolding unless_stopped
stop_refused t answer o e = rw e

-- A stop that is none gives what goes on.
pub stop_going : {A : Type 0} (t : Outcome (Unit {0})) (o : Outcome A) → t ≡ Ok tt → unless_stopped t o ≡ o
unfolding unless_stopped
stop_going t o e = rw e

-- Where a book goes on with a grant, it went on before, and the walk was granted.
from_going : {A : Type 0} (t t' : Outcome (Unit {0})) (x y : Outcome A) → t' ≡ Ok tt → unless_stopped t' x ≡ unless_stopped t y → (r : A) → x ≡ Ok r
    → (t ≡ Ok tt) × (y ≡ Ok r)
unfolding unless_stopped
from_going (Ok tt) t' x y e same r h = (refl, sym same ∙ stop_going t' x e ∙ h)
from_going (Err answer) t' x y e same r h = no_grant (sym same ∙ stop_going t' x e ∙ h)

-- ── Room ──

-- Room for both lines is room for the first,
pub room_first : {A B : Type 0} (b : Book) (w : Walk A) (g : A → Walk B) → HasRoom b (w >>= g) → HasRoom b w
room_first b w g room going = omega (arith, room going, asks_first w g)

-- and, after the first, for the second: what the first listed it asked for.
pub room_then : {A B : Type 0} (state : List ℕ) (b m : Book) (w : Walk A) (a : A) (g : A → Walk B) → Gives state b w m a → HasRoom b (w >>= g)
    → HasRoom m (g a)
unfolding resume kept_of run
room_then state b m w a g h room going =
    let o = reading_of state (reading_in b.ledger) in
    let (before, run-granted) = from_going _ _ _ _ going (h.resumed (room_first b w g room)) (a, kept_of m) refl in
    let listed = list_grows o w (kept_of b) a (kept_of m) run-granted in
    let both = asks_both o w g (kept_of b) a (kept_of m) run-granted in
    omega (arith, room before, listed, both, length-map b.list spelled, length-map m.list spelled)

-- ── Two lines ──

-- Two lines of a `do`, one after the other.
pub then : {A B : Type 0} (state : List ℕ) (b m r : Book) (w : Walk A) (a : A) (g : A → Walk B) (x : B)
    → Gives state b w m a → Gives state m (g a) r x → Gives state b (w >>= g) r x
then state b m r w a g x e f = record {
  same_reading = f.same_reading ∙ e.same_reading;
  sound = f.sound;
  resumed = λ room. f.resumed (room_then state b m w a g e room) ∙ sym (resume_then state b m w a g e (room_first b w g room));
}

-- Nothing to do.
pub idle : {A : Type 0} (state : List ℕ) (b : Book) (a : A) → Sound b → Gives state b (done a) b a
idle state b a s = record { same_reading = refl; sound = s; resumed = λ _. refl }

-- A book is as sound with another ledger.
pub same_sound : (list : List Fact) (l r : Ledger) → Sound (book l list) → Sound (book r list)
same_sound list l r s = record { few = s.few; in_form = s.in_form }

-- A book goes on, or has stopped.
pub goes_or_stopped : (s : Outcome (Unit {0})) → (s ≡ Ok tt) ⊎ ((answer : Answer) × (s ≡ Err answer))
goes_or_stopped (Ok tt) = inl refl
goes_or_stopped (Err answer) = inr (answer, refl)

-- A walk that comes to an answer stops the book with it, unless the book had stopped before.
pub refuses : {A : Type 0} (state : List ℕ) (list : List Fact) (l : Ledger) (answer : Answer) (w : Walk A) (a : A) → Stops answer → Sound (book l list)
    → run (reading_of state (reading_in l)) w (kept_of (book l list)) ≡ Err answer
    → Gives state (book l list) w (book (stopped_by answer l) list) a
unfolding resume
refuses state list l answer w a k s h = record {
  same_reading = stopped_reading answer l;
  sound = same_sound list l (stopped_by answer l) s;
  resumed = λ _. ⊎_elim now before (goes_or_stopped (stop_of l));
}
  where
    now : GoesOn l → resume state (book (stopped_by answer l) list) (done a) ≡ resume state (book l list) w
    now e = stop_refused _ answer _ (stopped_now l answer k e) ∙ sym (stop_going (stop_of l) _ e ∙ h)

    before : (first : Answer) × (stop_of l ≡ Err first) → resume state (book (stopped_by answer l) list) (done a) ≡ resume state (book l list) w
    before e = stop_refused _ e.0 _ (stopped_before l answer e.0 e.1) ∙ sym (stop_refused (stop_of l) e.0 _ e.1)

-- A step that does not fit.
pub misfits : {A : Type 0} (state : List ℕ) (list : List Fact) (l : Ledger) (q : ℕ) (a : A) → Sound (book l list)
    → Gives state (book l list) (misfit q) (book (misfitted l q) list) a
unfolding run
misfits state list l q a s = refuses state list l (StepUnfit q) (misfit q) a (refusal_stops (StepUnfit q) (omega arith)) s refl

-- What comes to nothing comes to it with any value.
pub misfits_any : {A B : Type 0} (state : List ℕ) (b r : Book) (q : ℕ) (a : A) (x : B) → Gives state b (misfit q) r a → Gives state b (misfit q) r x
unfolding ◌>>=◌
misfits_any state b r q a x h = then state b r r (misfit q) a (λ _. done x) x h (idle state r x h.sound)

-- A book that has stopped stays as it is, whatever the walk.
pub stays : {A : Type 0} (state : List ℕ) (b : Book) (answer : Answer) (w : Walk A) (a : A) → stop_of b.ledger ≡ Err answer → Sound b → Gives state b w b a
unfolding resume
stays state b answer w a e s = record {
  same_reading = refl;
  sound = s;
  resumed = λ _. stop_refused (stop_of b.ledger) answer _ e ∙ sym (stop_refused (stop_of b.ledger) answer _ e);
}

-- What has stopped after one line is what the whole comes to.
pub halted : {A B : Type 0} (state : List ℕ) (b r : Book) (answer : Answer) (w : Walk A) (a : A) (g : A → Walk B) (x : B)
    → Gives state b w r a → stop_of r.ledger ≡ Err answer → Gives state b (w >>= g) r x
halted state b r answer w a g x h e = then state b r r w a g x h (stays state r answer (g a) x e h.sound)

-- What does not go on has stopped.
pub not_going : (s : Outcome (Unit {0})) → (s ≡ Ok tt → ⊥) → (answer : Answer) × (s ≡ Err answer)
not_going (Ok tt) n = absurd (n refl)
not_going (Err answer) n = (answer, refl)

-- After a misfit a ledger has stopped.
pub misfitted_stopped : (l : Ledger) (q : ℕ) → (answer : Answer) × (stop_of (misfitted l q) ≡ Err answer)
misfitted_stopped l q = ⊎_elim
    (λ e. (StepUnfit q, stopped_now l (StepUnfit q) (refusal_stops (StepUnfit q) (omega arith)) e))
    (λ e. (e.0, stopped_before l (StepUnfit q) e.0 e.1))
    (goes_or_stopped (stop_of l))
