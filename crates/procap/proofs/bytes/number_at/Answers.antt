-- The loop has read the number of the bytes passed, which is below 256 to their count.
use Rattle.std.proofs.Common.{arith, ◌≡◌, ◌+◌, ◌^◌, ◌≤◌, ◌<◌, ℕ, ◌*◌, take, drop, refl, sym, ap, ◌∙◌}
use Rattle.std.proofs.lemmas.Grind.{common_steps}
use native.Mathlib.Nat.{pow-suc, pow-le-pow_right}
use native.Mathlib.Numerals.{add-one}
use borrow.Author.Tests.{le-leb}
use Rattle.procap.specs.Bytes.{big_endian}
use Rattle.procap.proofs.Numbers.{number_none, number_read, one_byte_more}
use Rattle.procap.proofs.bytes.number_at.Goals as goal

-- One byte more makes a number below the next power of 256.
below_next : (n i b : ℕ) → n < 256 ^ i → b < 256 → n * 256 + b < 256 ^ (i + 1)
below_next n i b h l = rw (add-one i, pow-suc 256 i) (omega arith)

-- What is below a power of 256 to fewer than eight fits when one byte more is put behind it.
fits_more : (n i : ℕ) → n < 256 ^ i → i < 8 → n * 256 + 255 < 256 ^ 8
fits_more n i h l = let p : 256 ^ i ≤ 256 ^ 7 = pow-le-pow_right {n = 256} (omega arith) {i = i} {j = 7} (omega arith) in omega arith

pub returns-in_err-get-clause-reads : goal.returns-in_err-get-clause-reads
returns-in_err-get-clause-reads g c = grind (arith, number_none)

pub returns-in_err-byte-items-clause-reads : goal.returns-in_err-byte-items-clause-reads
returns-in_err-byte-items-clause-reads g c = grind (arith, common_steps, number_none)

pub loop-byte-init : goal.loop-byte-init
unfolding big_endian
loop-byte-init g c = (omega arith, refl)

pub overflow_mul-number : goal.overflow_mul-number
overflow_mul-number g c =
    let few : c.loop-byte.byte-index < 8 = grind (arith, common_steps) in
    omega (arith, fits_more _ _ c.loop-byte.invariant.0 few)

pub overflow_add-number : goal.overflow_add-number
overflow_add-number g c =
    let few : c.loop-byte.byte-index < 8 = grind (arith, common_steps) in
    let byte : c.from.result < 256 = grind (arith, common_steps) in
    omega (arith, fits_more _ _ c.loop-byte.invariant.0 few, byte)

pub loop-byte-preserved : goal.loop-byte-preserved
loop-byte-preserved g c =
    let byte : c.from.result < 256 = grind (arith, common_steps) in
    (below_next _ _ _ c.loop-byte.invariant.0 byte, rw c.from.ensures (one_byte_more _ _ _ c.loop-byte-test.true c.loop-byte.invariant.1))

pub returns-clause-reads : goal.returns-clause-reads
returns-clause-reads g c =
    let n = g.row.N in
    let a = c.args in
    let all : take c.loop-byte.byte-index c.in_ok-byte-items.byte-items.now ≡ take n (drop a.at a.bytes.now) = grind (arith, common_steps) in
    let few : n ≤ 8 = grind arith in
    rw (le-leb n 8 few) (sym (number_read a.bytes.now n a.at _ (grind (arith, common_steps)) (c.loop-byte.invariant.1 ∙ ap (big_endian 0) all)))
