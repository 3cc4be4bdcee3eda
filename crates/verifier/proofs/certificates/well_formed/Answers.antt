-- Each test that fails is of something that a well formed record has; where all hold, the call on the part decides.
use native.Mathlib.Omega.{arith}
use Rattle.verifier.proofs.CertificateLaws.{refuted, agreed, stands, well_formed_by}
use Rattle.verifier.proofs.certificates.well_formed.Goals as goal

pub returns-then-not-may_stand : goal.returns-then-not-may_stand
returns-then-not-may_stand c = λ w. refuted c.may_stand.ensures c.if-not-may_stand.true-raw (stands _ _ w).1.from

pub returns-then-not-may_stand-2 : goal.returns-then-not-may_stand-2
returns-then-not-may_stand-2 c = λ w. refuted c.may_stand-2.ensures c.if-not-may_stand-2.true-raw (stands _ _ w).1.to

pub returns-then-length-gt-MOST_PART_BYTES : goal.returns-then-length-gt-MOST_PART_BYTES
returns-then-length-gt-MOST_PART_BYTES c = λ w. let h = stands _ _ w in omega (arith, h.1)

pub returns-then-buffer-start : goal.returns-then-buffer-start
returns-then-buffer-start c = λ w. let h = stands _ _ w in omega (arith, h.1)

pub returns-then-buffer-start-2 : goal.returns-then-buffer-start-2
returns-then-buffer-start-2 c = λ w. let h = stands _ _ w in omega (arith, h.1)

pub returns : goal.returns
returns c =
    well_formed_by _ _ c.holds_formula.result
    (agreed c.may_stand.ensures c.if-not-may_stand.false-raw)
    (agreed c.may_stand-2.ensures c.if-not-may_stand-2.false-raw)
    (omega arith)
    (omega arith)
    c.holds_formula.ensures
