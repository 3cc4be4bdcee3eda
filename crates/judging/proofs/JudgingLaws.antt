-- What a step takes or yields, put together with the walk before it and after it, stopped ledgers included.
use Rattle.std.specs.Prelude.{Err}
use Prim.Native.Nat.{ℕ}
use mathlib.Core.Path.{◌≡◌, refl, sym, ◌∙◌, ap}
use mathlib.Core.List.{List}
use mathlib.Core.Logic.{◌⊎◌, inl, inr}
use Rattle.procap.specs.declared.answer.Answer.{Answer}
use Rattle.procap.specs.declared.time.Time.{Time}
use Rattle.procap.specs.declared.time.Time.TheVariants.{Ctime}
use Rattle.procap.proofs.Granted.{no_grant}
use Rattle.procap.specs.declared.fact.Fact.{Fact}
use Rattle.bl.specs.Trees.{Formula, top}
use Rattle.bl.specs.Questions.{Walk, done, misfit, ◌>>=◌, Test, ask_order}
use Rattle.bl.specs.Walk as walk
use Rattle.ledger.specs.declared.Ledger.{Ledger}
use Rattle.formula.specs.declared.parts.Judgement.{Judgement}
use Rattle.judging.specs.declared.judge.Inferred.{Inferred}
use Rattle.judging.specs.declared.judge.Application.{Application}
use Rattle.ledger.specs.Books.{stop_of, Book, book, Sound, Gives, misfitted, GoesOn}
use Rattle.formula.specs.Meaning.{begin, Means, On}
use Rattle.judging.specs.Judging.{and_then, part_of, and_sides, implies_sides, fits_goal, Takes, takes, unfit, Yields, Used, used, unused}
use Rattle.ledger.proofs.Giving.{then, goes_or_stopped}
use Rattle.judging.proofs.Coming.{stops, comes_on, comes_halted, comes_taken, comes_inferred, comes_yields}

-- ── Intervals ──

-- One covers another by two orders, one after the other.
pub both_orders : {state : List ℕ} {list : List Fact} {l m r : Ledger} {q : ℕ} {a b c d : Time}
    → Gives state (book l list) (ask_order q a c) (book m list) tt
    → Gives state (book m list) (ask_order q d b) (book r list) tt
    → Gives state (book l list) (walk.need_cover q a b c d) (book r list) tt
unfolding walk.need_cover
both_orders {state} {list} {l} {m} {r} {q} {a} {b} {c} {d} f g =
    then state (book l list) (book m list) (book r list) (ask_order q a c) tt (λ _. ask_order q d b) tt f g

-- ── What is taken ──

-- It is so in any way that follows.
pub takes_so : {X : Type 0} {w : Walk X} {q : ℕ} {l r : Ledger} {So Also : X → Type 0}
    → ((x : X) → So x → Also x) → Takes w q l r So → Takes w q l r Also
takes_so h (takes x e f so) = takes x e f (h x so)
takes_so h (unfit e f) = unfit e f

-- What is taken, and then a value made of it.
pub takes_then : {X Y : Type 0} {w : Walk X} {q : ℕ} {l r : Ledger} {So : X → Type 0} {Also : Y → Type 0} (v : Walk Y) (h : X → Y)
    → v ≡ w >>= (λ x. done (h x)) → ((x : X) → So x → Also (h x)) → Takes w q l r So → Takes v q l r Also
unfolding ◌>>=◌
takes_then v h m g (takes x e f so) = takes (h x) (m ∙ ap (λ k. k >>= (λ x. done (h x))) e) f (g x so)
takes_then v h m g (unfit e f) = unfit (m ∙ ap (λ k. k >>= (λ x. done (h x))) e) f

-- ── What is yielded ──

module _ {state buffer : List ℕ} {list : List Fact} {l : Ledger} {w : Walk walk.Judgement} {e : ℕ} (r : Inferred) (s : Sound (book l list)) where
  -- A judgement that is taken, with where the step ends, is yielded; or nothing is.
  taken : {q : ℕ} → Takes w q l r.ledger (λ j. On buffer r.judgement j.0 j.1 j.2 × (r.next ≡ e))
      → Yields state buffer (book l list) w e r list
  taken {q} t = comes_yields state buffer (book l list) w e r list (comes_taken state list w q l r.ledger _ (top, Ctime, Ctime) s t)

  pub yields : {A : Formula} {a b : Time} → w ≡ done (A, a, b) → r.ledger ≡ l → On buffer r.judgement A a b → r.next ≡ e
      → Yields state buffer (book l list) w e r list
  yields {A} {a} {b} d f o n = taken {q = 0} (takes (A, a, b) d f (o, n))

  pub yields_nothing : {q : ℕ} → w ≡ misfit q → r.ledger ≡ misfitted l q → Yields state buffer (book l list) w e r list
  yields_nothing d f = taken (unfit d f)

  pub takes_yields : {q : ℕ} → r.next ≡ e → Takes w q l r.ledger (λ j. On buffer r.judgement j.0 j.1 j.2)
      → Yields state buffer (book l list) w e r list
  takes_yields n t = taken (takes_so (λ j o. (o, n)) t)

module _ {state buffer : List ℕ} {b : Book} {w : Walk walk.Judgement} {e : ℕ} {inferred : Inferred} {list : List Fact}
    (y : Yields state buffer b w e inferred list) (g : walk.Judgement → Walk walk.Judgement) (r : Inferred) where
  -- A step after one that has stopped.
  pub halts : (GoesOn inferred.ledger → ⊥) → r.ledger ≡ inferred.ledger → Yields state buffer b (and_then w g) e r list
  halts n f =
      comes_yields state buffer b (and_then w g) e r list
      (rw f (comes_halted state b (book inferred.ledger list) w g (comes_inferred state buffer b w e inferred list y) (top, Ctime, Ctime) n))

  -- A step on what one before it came to.
  pub goes_on : {end : ℕ} → Yields state buffer (book inferred.ledger list) (g (y.formula, y.from, y.to)) end r list
      → Yields state buffer b (and_then w g) end r list
  unfolding comes_inferred
  goes_on {end} z =
      let middle = book inferred.ledger list in
      comes_yields state buffer b (and_then w g) end r list
      (comes_on state b middle w g (comes_inferred state buffer b w e inferred list y) (book r.ledger list)
      (comes_inferred state buffer middle (g (y.formula, y.from, y.to)) end r list z))

-- One side of the conjunction that was inferred, by what was taken of it.
pub one_side : {state buffer : List ℕ} {b : Book} {w : Walk walk.Judgement} {e : ℕ} {inferred : Inferred} {list : List Fact} (q : ℕ)
    (side : Formula × Formula → Formula) (r : Inferred) → Yields state buffer b w e inferred list
    → ((F : Formula) → GoesOn inferred.ledger → Means buffer 0 inferred.judgement.formula F
    → Takes (and_sides q F) q inferred.ledger r.ledger (λ x. On buffer r.judgement (side x) inferred.judgement.from inferred.judgement.to))
    → ((GoesOn inferred.ledger → ⊥) → r.ledger ≡ inferred.ledger)
    → r.next ≡ inferred.next
    → Yields state buffer b (and_then w (λ j. and_sides q j.0 >>= λ x. done (side x, j.1, j.2))) e r list
one_side {state} {buffer} {b} {w} {e} {inferred} {list} q side r y going stopped next =
    by (goes_or_stopped (stop_of inferred.ledger))
  where
    after : walk.Judgement → Walk walk.Judgement
    after j = and_sides q j.0 >>= λ x. done (side x, j.1, j.2)

    by : GoesOn inferred.ledger ⊎ ((answer : Answer) × (stop_of inferred.ledger ≡ Err answer))
        → Yields state buffer b (and_then w after) e r list
    by (inl h) =
        let o = y.on h in
        let both = going y.formula h o.means in
        goes_on y after r
        (takes_yields r y.gives.sound (next ∙ y.ends h)
        (takes_then (after (y.formula, y.from, y.to)) (λ x. (side x, y.from, y.to)) refl (λ x so. rw (o.from, o.to) at so) both))
    by (inr h) =
        let ends : GoesOn inferred.ledger → ⊥ = λ g. no_grant (sym h.1 ∙ g) in
        halts y after r ends (stopped ends)

-- 26, before its second step, by what was taken of the implication and by the interval that it covers.
pub put_to_use : {state buffer : List ℕ} {list : List Fact} {l m : Ledger} {F : Formula} {from to start end a b t1 t2 : Time} {q middle next : ℕ}
    (j : Judgement) (first second : ℕ) (r : Application) → from ≡ a → to ≡ b → start ≡ t1 → end ≡ t2 → Sound (book l list)
    → Takes (implies_sides q F) q l m (λ x. On buffer (part_of j first) x.0 from to × On buffer (part_of j second) x.1 from to)
    → (Sound (book m list) → Gives state (book m list) (walk.need_cover q from to start end) (book r.ledger list) tt)
    → r.premise ≡ record { formula = begin j.formula first; from = start; to = end }
    → r.conclusion ≡ second → r.middle ≡ middle → r.next ≡ next
    → Used state buffer q list l F a b t1 t2 middle next r
unfolding ◌>>=◌
put_to_use {state} {buffer} {list} {l} {m} {F} {from} {to} {start} {end} {q = q} {middle} {next} j first second r f g h k s t orders p c i n =
    rw (← f, ← g, ← h, ← k) (by t)
  where
    by : Takes (implies_sides q F) q l m (λ x. On buffer (part_of j first) x.0 from to × On buffer (part_of j second) x.1 from to)
        → Used state buffer q list l F from to start end middle next r
    by (takes x d e o) =
        used x.0 x.1 d (rw e at (orders (rw e s)))
        (rw p (record { means = o.0.means; from = refl; to = refl }))
        (rw (p, c) (record { means = o.1.means; from = refl; to = refl })) i n
    by (unfit d e) =
        let stopped : Gives state (book l list) (misfit q) (book m list) (tt {0}) = stops s refl e in
        let rest : Unit {0} → Test = λ _. walk.need_cover q from to start end in
        unused d (then state (book l list) (book m list) (book r.ledger list) (misfit q) tt rest tt stopped (orders stopped.sound))

-- The formulas compared, then the intervals.
pub fits : {state : List ℕ} {list : List Fact} {l m r : Ledger} (q : ℕ) (F G : Formula) {from to a b : Time} (c d : Time) → from ≡ a → to ≡ b
    → Gives state (book l list) (walk.same q F G) (book m list) tt
    → Gives state (book m list) (walk.need_cover q from to c d) (book r list) tt
    → Gives state (book l list) (fits_goal q F a b G c d) (book r list) tt
unfolding fits_goal
fits {state} {list} {l} {m} {r} q F G {from} {to} c d e f same covered =
    let rest : Unit {0} → Test = λ _. walk.need_cover q from to c d in
    rw (← e, ← f) (then state (book l list) (book m list) (book r list) (walk.same q F G) tt rest tt same covered)
