-- The digits read so far say the value, within the limit and in their one spelling. A digit after a lone zero, or one that passes
-- the limit, leaves no number, since more digits only make the value larger.
use Prim.Native.Nat.{◌+◌, ◌*◌}
use mathlib.Core.Path.{◌≡◌, sym, ◌∙◌}
use native.Mathlib.Omega.{arith}
use Rattle.text.proofs.Digits.{no_number, first_above, started, ended, after_zero, passed, more}
use Rattle.text.proofs.line.number.Goals as goal

pub returns-in_err-value-clause-reads : goal.returns-in_err-value-clause-reads
returns-in_err-value-clause-reads c = c.from_residual.ensures ∙ sym (no_number _ _ _ c.in_err-value.ensures)

pub returns-then-limit-value-clause-reads : goal.returns-then-limit-value-clause-reads
returns-then-limit-value-clause-reads c = sym (first_above _ _ _ _ c.in_ok-value.ensures c.if-limit-value.true)

pub loop-digit-init : goal.loop-digit-init
loop-digit-init c = started _ _ _ _ c.in_ok-value.ensures c.if-limit-value.false

pub returns-then-value-eq0-clause-reads : goal.returns-then-value-eq0-clause-reads
returns-then-value-eq0-clause-reads c = sym (after_zero _ _ _ _ _ c.loop-digit.invariant _ c.in-Some.ensures c.if-value-eq0.true)

pub returns-in_err-checked_mul-clause-reads : goal.returns-in_err-checked_mul-clause-reads
returns-in_err-checked_mul-clause-reads c =
    c.from_residual-in_err-checked_mul.ensures
    ∙ sym (passed _ _ _ _ _ c.loop-digit.invariant _ c.in-Some.ensures (omega (arith, c.in_err-checked_mul.ensures)))

pub returns-in_err-value-2-clause-reads : goal.returns-in_err-value-2-clause-reads
returns-in_err-value-2-clause-reads c =
    c.from_residual-in_err-value-2.ensures
    ∙ sym (passed _ _ _ _ _ c.loop-digit.invariant _ c.in-Some.ensures (omega (arith, c.in_err-value-2.ensures, c.in_ok-checked_mul.ensures)))

pub returns-then-limit-value-2-clause-reads : goal.returns-then-limit-value-2-clause-reads
returns-then-limit-value-2-clause-reads c =
    sym (passed _ _ _ _ _ c.loop-digit.invariant _ c.in-Some.ensures (omega (arith, c.in_ok-value-2.ensures, c.in_ok-checked_mul.ensures)))

pub loop-digit-preserved : goal.loop-digit-preserved
loop-digit-preserved c =
    let value : c.in_ok-value-2.value ≡ c.loop-digit.value * 10 + c.in-Some.digit = omega (arith, c.in_ok-value-2.ensures, c.in_ok-checked_mul.ensures) in
    rw value (more _ _ _ _ _ c.loop-digit.invariant _ c.in-Some.ensures c.if-value-eq0.false (omega arith))

pub returns-clause-reads : goal.returns-clause-reads
returns-clause-reads c = sym (ended _ _ _ _ _ c.loop-digit.invariant c.in_default.ensures)
