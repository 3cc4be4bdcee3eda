-- What a part of a walk came to: a value, and what is so of it where the ledger goes on. Parts compose like the lines of a `do`.
use Prim.Native.Nat.{ℕ}
use mathlib.Core.Path.{◌≡◌, refl, sym, ap, ◌∙◌}
use mathlib.Core.List.{List}
use native.Mathlib.Omega.{arith}
use Rattle.std.specs.Prelude.{Err, Ok}
use Rattle.procap.specs.Outcome.{Outcome}
use Rattle.procap.specs.declared.time.Time.{Time}
use Rattle.procap.specs.declared.answer.Answer.{Answer}
use Rattle.procap.specs.declared.answer.Answer.TheVariants.{StepUnfit}
use Rattle.procap.proofs.Granted.{no_grant}
use Rattle.procap.specs.declared.fact.Fact.{Fact}
use Rattle.bl.specs.Trees.{Formula}
use Rattle.bl.specs.Questions.{Walk, done, misfit, asks, ◌>>=◌, Test}
use Rattle.bl.specs.Readings.{run}
use Rattle.bl.specs.Walk as walk
use Rattle.ledger.specs.declared.Ledger.{Ledger}
use Rattle.formula.specs.declared.parts.Judgement.{Judgement}
use Rattle.judging.specs.declared.judge.Inferred.{Inferred}
use Rattle.judging.specs.declared.judge.Application.{Application}
use Rattle.judging.specs.declared.judge.Checked.{Checked}
use Rattle.ledger.specs.Books.{stop_of, Book, book, Sound, Gives, misfitted, kept_of, resume, unless_stopped, GoesOn}
use Rattle.formula.specs.Meaning.{On}
use Rattle.judging.specs.Judging.{and_then, part_of, Takes, takes, unfit, Yields, Passes, Used, used, unused}
use Rattle.ledger.proofs.Giving.{then, idle, misfits, misfits_any, halted, not_going, misfitted_stopped, stop_going}
use Rattle.judging.proofs.StepWalks.{use_implication}

-- ── Lines that pass, and lines that do not fit ──

module _ {A : Type 0} {state : List ℕ} {list : List Fact} {l : Ledger} {w : Walk A} (s : Sound (book l list)) where
  pub passes : {a : A} → w ≡ done a → Gives state (book l list) w (book l list) a
  passes {a} e = rw e (idle state (book l list) a s)

  pub stops : {r : Ledger} {q : ℕ} {a : A} → w ≡ misfit q → r ≡ misfitted l q → Gives state (book l list) w (book r list) a
  stops {r} {q} {a} e f = rw (e, f) (misfits state list l q a s)

-- What did not fit does not go on.
misfitted_ends : (l : Ledger) (q : ℕ) {r : Ledger} → r ≡ misfitted l q → GoesOn r → ⊥
misfitted_ends l q {r} e g =
    let h = misfitted_stopped l q in
    no_grant (sym h.1 ∙ ap stop_of (sym e) ∙ g)

-- ── What a part came to ──

-- The walk w, from the book b to the book r, came to a value that is so.
pub record Comes {X : Type 0} (state : List ℕ) (b : Book) (w : Walk X) (r : Book) (So : X → Type 0) : Type 0 where
  pub value : X
  pub gives : Gives state b w r value
  pub so : GoesOn r.ledger → So value

module _ {X Y : Type 0} (state : List ℕ) (b m : Book) (w : Walk X) {So : X → Type 0} (g : X → Walk Y) {Then : Y → Type 0} (c : Comes state b w m So) where
  -- Where a part has stopped, so has the whole.
  pub comes_halted : Y → (GoesOn m.ledger → ⊥) → Comes state b (and_then w g) m Then
  comes_halted y n =
      let s = not_going (stop_of m.ledger) n in
      record { value = y; gives = halted state b m s.0 w c.value g y c.gives s.1; so = λ e. absurd (n e) }

  -- The rest follows from its value; where it goes on, from any that is so.
  pub comes_on : (r : Book) → Comes state m (g c.value) r Then → Comes state b (and_then w g) r Then
  comes_on r d = record { value = d.value; gives = then state b m r w c.value g d.value c.gives d.gives; so = d.so }

  pub comes_then : (r : Book) → GoesOn m.ledger → ((x : X) → So x → Comes state m (g x) r Then) → Comes state b (and_then w g) r Then
  comes_then r e f = comes_on r (f c.value (c.so e))

  -- What is done only where the part goes on, and leaves the book as it is where it has stopped.
  pub comes_or_stays : (r : Book) → Y → (GoesOn m.ledger → (x : X) → So x → Comes state m (g x) r Then) → ((GoesOn m.ledger → ⊥) → r ≡ m)
      → Comes state b (and_then w g) r Then
  comes_or_stays r y on stays = by (stop_of m.ledger) refl
    where
      stopped_ends : (answer : Answer) → stop_of m.ledger ≡ Err answer → GoesOn m.ledger → ⊥
      stopped_ends answer e g = no_grant (sym e ∙ g)

      by : (s : Outcome (Unit {0})) → stop_of m.ledger ≡ s → Comes state b (and_then w g) r Then
      by (Ok tt) e = comes_then r e (on e)
      by (Err answer) e = rw (stays (stopped_ends answer e)) (comes_halted y (stopped_ends answer e))

-- A part whose value does not matter, and then another value.
pub comes_with : {X Y : Type 0} (state : List ℕ) (b m : Book) (w : Walk X) {So : X → Type 0} {Then : Y → Type 0} → Comes state b w m So → (y : Y) → Then y
    → Comes state b (and_then w (λ _. done y)) m Then
comes_with state b m w c y so =
    record { value = y; gives = then state b m m w c.value (λ _. done y) y c.gives (idle state m y c.gives.sound); so = λ _. so }

-- A part that takes a value or does not fit.
pub comes_taken : {X : Type 0} (state : List ℕ) (list : List Fact) (w : Walk X) (q : ℕ) (l r : Ledger) (So : X → Type 0) → X → Sound (book l list) → Takes w q l r So
    → Comes state (book l list) w (book r list) So
comes_taken state list w q l r So y s (takes x e f so) = record { value = x; gives = rw f (passes s e); so = λ _. so }
comes_taken state list w q l r So y s (unfit e f) = record { value = y; gives = stops s e f; so = λ g. absurd (misfitted_ends l q f g) }

-- A step that infers, and one that checks.
unfoldable pub comes_inferred : (state buffer : List ℕ) (b : Book) (w : Walk walk.Judgement) (e : ℕ) (r : Inferred) (list : List Fact) → Yields state buffer b w e r list
    → Comes state b w (book r.ledger list) (λ j. On buffer r.judgement j.0 j.1 j.2 × (r.next ≡ e))
comes_inferred state buffer b w e r list y =
    record { value = (y.formula, y.from, y.to); gives = y.gives; so = λ g. (y.on g, y.ends g) }

pub comes_checked : (state : List ℕ) (b : Book) (w : Test) (e : ℕ) (r : Checked) (list : List Fact) → Passes state b w e r list
    → Comes state b w (book r.ledger list) (λ _. r.next ≡ e)
comes_checked state b w e r list p = record { value = tt; gives = p.gives; so = p.ends }

-- And back.
pub comes_yields : (state buffer : List ℕ) (b : Book) (w : Walk walk.Judgement) (e : ℕ) (r : Inferred) (list : List Fact)
    → Comes state b w (book r.ledger list) (λ j. On buffer r.judgement j.0 j.1 j.2 × (r.next ≡ e))
    → Yields state buffer b w e r list
comes_yields state buffer b w e r list c =
    record { formula = c.value.0; from = c.value.1; to = c.value.2; gives = c.gives; on = λ g. (c.so g).0; ends = λ g. (c.so g).1 }

comes_passes : (state : List ℕ) (b : Book) (w : Test) (e : ℕ) (r : Checked) (list : List Fact) → Comes state b w (book r.ledger list) (λ _. r.next ≡ e)
    → Passes state b w e r list
comes_passes state b w e r list c = record { gives = c.gives; ends = c.so }

-- A test that is passed as something is taken, or does not fit.
pub passes_taken : {state : List ℕ} {list : List Fact} {w : Test} {q : ℕ} {l : Ledger} {e : ℕ} {r : Checked} → Sound (book l list) → Takes w q l r.ledger (λ _. r.next ≡ e)
    → Passes state (book l list) w e r list
passes_taken {state} {list} {w} {q} {l} {e} {r} s t =
    comes_passes state (book l list) w e r list (comes_taken state list w q l r.ledger (λ _. r.next ≡ e) tt s t)

-- A test on the interval of a judgement is one on the interval that it is of.
pub passes_on : (state bytes : List ℕ) (j : Judgement) (A : Formula) (a b : Time) → On bytes j A a b → (w : Time → Time → Test) (k : Book) (e : ℕ) (r : Checked) (list : List Fact)
    → Passes state k (w j.from j.to) e r list → Passes state k (w a b) e r list
passes_on state bytes j A a b on w k e r list p = rw (← on.from, ← on.to) p

-- A part, and then a test that is passed; where the part has stopped, the end says nothing.
module _ {X : Type 0} (state : List ℕ) (b : Book) (w : Walk X) {So : X → Type 0} (l : Ledger) (list : List Fact) (c : Comes state b w (book l list) So) (g : X → Test) (e : ℕ) where
  pub passes_halted : (GoesOn l → ⊥) → (next : ℕ) → Passes state b (and_then w g) e (record { ledger = l; next = next }) list
  passes_halted n next = comes_passes state b (and_then w g) e (record { ledger = l; next = next }) list (comes_halted state b (book l list) w g c tt n)

  pub passes_then : GoesOn l → (r : Checked) (list' : List Fact) → (Sound (book l list) → (x : X) → So x → Passes state (book l list) (g x) e r list')
      → Passes state b (and_then w g) e r list'
  passes_then going r list' rest =
      comes_passes state b (and_then w g) e r list'
      (comes_then state b (book l list) w g c (book r.ledger list') going
      (λ x so. comes_checked state (book l list) (g x) e r list' (rest c.gives.sound x so)))

-- After a misfit no walk goes on.
never_granted : {A : Type 0} (s : Outcome (Unit {0})) (answer : Answer) (x : A) → ◌≡◌ {A = Outcome A} (Ok x) (unless_stopped s (Err answer)) → ⊥
unfolding unless_stopped
never_granted (Ok tt) answer x e = no_grant (sym e)
never_granted (Err before) answer x e = no_grant (sym e)

misfit_stops : {A : Type 0} (state : List ℕ) (b r : Book) (q : ℕ) (a : A) → Sound b → Gives state b (misfit q) r a → GoesOn r.ledger → ⊥
unfolding resume run asks
misfit_stops state b r q a s h e =
    let same = h.resumed (λ _. omega (arith, s.few)) in
    never_granted (stop_of b.ledger) (StepUnfit q) (a, kept_of r) (sym (stop_going (stop_of r.ledger) (Ok (a, kept_of r)) e) ∙ same)

-- 26, before its second step.
pub comes_used : (state buffer : List ℕ) (q : ℕ) (list : List Fact) (l : Ledger) (F : Formula) (a b t1 t2 : Time) (middle next : ℕ) (r : Application)
    → Sound (book l list) → Used state buffer q list l F a b t1 t2 middle next r
    → Comes state (book l list) (use_implication q t1 t2 (F, a, b)) (book r.ledger list)
    (λ x. On buffer r.premise x.0 t1 t2 × On buffer (part_of r.premise r.conclusion) x.1 t1 t2 × (r.middle ≡ middle) × (r.next ≡ next))
unfolding use_implication ◌>>=◌
comes_used state buffer q list l F a b t1 t2 middle next r s (used A B e g premise conclusion m n) =
    record {
      value = (A, B);
      gives = rw e (then state (book l list) (book r.ledger list) (book r.ledger list) (walk.need_cover q a b t1 t2) tt (λ _. done (A, B)) (A, B) g (idle state (book r.ledger list) (A, B) g.sound));
      so = λ _. (premise, conclusion, m, n);
    }
comes_used state buffer q list l F a b t1 t2 middle next r s (unused e g) =
    record {
      value = (F, F);
      gives = rw e (misfits_any state (book l list) (book r.ledger list) q (tt {0}) (F, F) g);
      so = λ going. absurd (misfit_stops state (book l list) (book r.ledger list) q (tt {0}) s g going);
    }
