-- Bytes that are no text are 12. Of a text what comes before the facts stops the press, and else the facts on its lines do.
use Rattle.std.proofs.Common.{arith, sym}
use Rattle.std.proofs.lemmas.Grind.{common_steps}
use Rattle.std.proofs.lemmas.Result.{err_from_is_err_and}
use Rattle.door.proofs.Texts.{not_seen, seen_there, no_text, seen_before, seen_by_the_facts, gives_on_lines}
use Rattle.door.proofs.on_text.opening_text.Goals as goal

pub returns-in_err-seen : goal.returns-in_err-seen
returns-in_err-seen c =
    let none = not_seen _ _ c.look_over.ensures _ c.in_err-seen.ensures.value in
    let p = err_from_is_err_and c.from_residual.result c.from_residual.ensures.1 in
    rw (p.1, p.2, none.0) (sym (no_text _ _ _ _ none.1))

pub returns-in_err-before_facts : goal.returns-in_err-before_facts
returns-in_err-before_facts c =
    let seen = seen_there _ _ c.look_over.ensures _ c.in_ok-seen.ensures.value in
    let p = err_from_is_err_and c.from_residual-in_err-before_facts.result c.from_residual-in_err-before_facts.ensures.1 in
    rw (p.1, p.2) (sym (seen_before _ _ _ _ _ _ _ seen.facts seen.says _ c.in_err-before_facts.ensures))

pub returns : goal.returns
returns c =
    let seen = seen_there _ _ c.look_over.ensures _ c.in_ok-seen.ensures.value in
    seen_by_the_facts _ _ _ _ _ _ _ seen.facts seen.says c.in_ok-before_facts.ensures _
    (c.first_missing.ensures seen.facts
    (gives_on_lines c.args.text.now c.places-places.result.now seen.facts (rw (sym c.places-places.ensures) at seen.on) _
    (λ i f h g. grind (arith, common_steps))))
