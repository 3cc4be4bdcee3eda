-- Comparing goes from ledger to ledger: how tests stand in a row, and what a walk comes to that stops, that goes on, or that has nothing to do.
use Prim.Native.Nat.{ℕ}
use mathlib.Core.Path.{◌≡◌, refl, ap, ◌∙◌}
use mathlib.Core.List.{List}
use Rattle.std.specs.Prelude.{None, Option}
use mathlib.Core.Logic.{if_pos, if_neg}
use native.Mathlib.Decide.{ℕ_discrete}
use native.Mathlib.Omega.{arith}
use Rattle.bl.specs.Questions.{done, misfit, ask, ◌>>=◌, ◌>>◌, Test, need, need_equal}
use Rattle.bl.specs.Walk.{same}
use Rattle.ledger.specs.declared.Ledger.{Ledger}
use Rattle.formula.specs.declared.compare.Compared.{Compared}
use Rattle.ledger.specs.Books.{stop_of, book, misfitted, GoesOn}
use Rattle.formula.specs.Comparing.{Two, LeadsTo, move, ComparesPair, ComparesAfter}
use Rattle.ledger.proofs.Giving as giving

-- ── Tests ──

-- A test and then nothing more is the test.
pub test_done : (w : Test) → (w >> done tt) ≡ w
unfolding ◌>>=◌
test_done (done a) = refl
test_done (misfit q) = refl
test_done (ask x q w) = ap (ask x q) (test_done w)

-- Two tests and then a third are the first and then the two others.
pub test_row : (u v w : Test) → ((u >> v) >> w) ≡ (u >> (v >> w))
unfolding ◌>>=◌
test_row (done a) v w = refl
test_row (misfit q) v w = refl
test_row (ask x q u) v w = ap (ask x q) (test_row u v w)

-- Numbers that must be equal, and are or are not.
pub equal_numbers : (q n k : ℕ) → n ≡ k → need_equal q n k ≡ done tt
unfolding need_equal
equal_numbers q n k e = if_pos (ℕ_discrete n k) e (done tt) (misfit q)

pub other_numbers : (q n k : ℕ) → (n ≡ k → ⊥) → need_equal q n k ≡ misfit q
unfolding need_equal
other_numbers q n k e = if_neg (ℕ_discrete n k) e (done tt) (misfit q)

-- What must be there and is not.
pub not_there : {A : Type 0} (q : ℕ) (o : Option A) (f : A → Test) → o ≡ None → (need q o >>= f) ≡ misfit q
unfolding need ◌>>=◌
not_there q o f e = rw e

-- ── Ledgers and ends ──

-- The walk and the ends said otherwise.
pub leads_as : (l : Ledger) (w v : Test) (r : Compared) (e f e' f' : ℕ) → w ≡ v → e ≡ f → e' ≡ f' → LeadsTo l v r e e' → LeadsTo l w r f f'
leads_as l w v r e f e' f' a b b' h state list s =
    let g = h state list s in (rw a g.0, λ going. ((g.1 going).0 ∙ b, (g.1 going).1 ∙ b'))

-- A ledger that has stopped comes to no ends.
stopped_ends : (r : Compared) (e e' : ℕ) → (GoesOn r.ledger → ⊥) → GoesOn r.ledger
    → (r.left_next ≡ e) × (r.right_next ≡ e')
stopped_ends r e e' n going = absurd (n going)

-- A misfit stops.
pub differs : (l : Ledger) (q : ℕ) (r : Compared) → r.ledger ≡ misfitted l q → (e e' : ℕ) → LeadsTo l (misfit q) r e e'
differs l q r is e e' state list s = (rw is (giving.misfits state list l q tt s), stopped_ends r e e' stopped)
  where
    stopped : GoesOn r.ledger → ⊥
    stopped going =
        let halt = giving.misfitted_stopped l q in
        let z : ◌≡◌ {A = ℕ} 0 1 = cc (halt.1, going, is) in
        absurd (omega arith)

-- Nothing more to compare.
pub agrees : (l : Ledger) (r : Compared) → r.ledger ≡ l → LeadsTo l (done tt) r r.left_next r.right_next
agrees l r is state list s = (rw is (giving.idle state (book l list) tt s), λ _. (refl, refl))

-- A walk that has stopped, and another that is not begun.
halts : (l : Ledger) (w v : Test) (r : Compared) (e e' f f' : ℕ) → (GoesOn r.ledger → ⊥) → LeadsTo l w r e e' → LeadsTo l (w >> v) r f f'
halts l w v r e e' f f' n h state list s =
    let halt = giving.not_going (stop_of r.ledger) n in
    let first = (h state list s).0 in
    (giving.halted state (book l list) (book r.ledger list) halt.0 w tt (λ _. v) tt first halt.1, stopped_ends r f f' n)

-- A walk that goes on, and then another from where it came to.
goes_on : (l : Ledger) (w v : Test) (one r : Compared) (e e' f f' : ℕ) → GoesOn one.ledger → LeadsTo l w one e e'
    → (one.left_next ≡ e → one.right_next ≡ e' → LeadsTo one.ledger v r f f') → LeadsTo l (w >> v) r f f'
goes_on l w v one r e e' f f' going h k state list s =
    let first = h state list s in
    let ends = first.1 going in
    let second = k ends.0 ends.1 state list first.0.sound in
    let middle = book one.ledger list in
    (giving.then state (book l list) middle (book r.ledger list) w tt (λ _. v) tt first.0 second.0, second.1)

-- What was compared before, and then the formulas of a pair.
module _ (left_bytes right_bytes : List ℕ) (before : Compared) (pair : Two) (levels : ℕ) where
  -- After a walk that has stopped they are not compared.
  pub stops_before : (GoesOn before.ledger → ⊥) → ComparesAfter left_bytes right_bytes before pair levels before
  stops_before stopped l w e e' A A' m n low h = halts l w (same pair.offset A A') before e e' m.end n.end stopped h

  -- After a walk that goes on they stand where it came to.
  pub goes_on_after : (r : Compared) → GoesOn before.ledger
      → ComparesPair left_bytes right_bytes (move pair before.left_next before.right_next) before.ledger levels r
      → ComparesAfter left_bytes right_bytes before pair levels r
  goes_on_after r going rest l w e e' A A' m n low h = goes_on l w (same pair.offset A A') before r e e' m.end n.end going h there
    where
      there : before.left_next ≡ e → before.right_next ≡ e' → LeadsTo before.ledger (same pair.offset A A') r m.end n.end
      there is is' = (rw (is, is') at rest) A A' m n low
