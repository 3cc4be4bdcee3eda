-- A value that cannot be written is 12. Of any other what comes before the facts stops the press, and else its facts do.
use mathlib.Core.Path.{sym}
use Rattle.std.proofs.Common.{arith}
use Rattle.std.proofs.lemmas.Grind.{common_steps}
use Rattle.std.proofs.lemmas.Result.{err_from_is_err_and}
use Rattle.procap.proofs.Telling.{holds, fails}
use Rattle.door.proofs.Refusals.{not_writable}
use Rattle.door.proofs.BeforeFacts.{by_what_comes_before, by_the_facts}
use Rattle.door.proofs.Missing.{gives_listed}
use Rattle.door.proofs.on_value.opening.Goals as goal

pub returns-then-not-can_be_written : goal.returns-then-not-can_be_written
returns-then-not-can_be_written c = sym (not_writable _ _ _ _ (fails _ c.if-not-can_be_written.true c.can_be_written.ensures))

pub returns-in_err-before_facts : goal.returns-in_err-before_facts
returns-in_err-before_facts c =
    let writable = holds _ c.if-not-can_be_written.false c.can_be_written.ensures in
    let p = err_from_is_err_and c.from_residual.result c.from_residual.ensures.1 in
    rw (p.1, p.2) (sym (by_what_comes_before _ writable _ _ _ _ c.in_err-before_facts.ensures))

pub returns : goal.returns
returns c =
    let writable = holds _ c.if-not-can_be_written.false c.can_be_written.ensures in
    by_the_facts _ writable _ _ _ c.in_ok-before_facts.ensures _
    (c.first_missing.ensures _ (gives_listed _ writable _ (λ i f h g. grind (arith, common_steps))))
