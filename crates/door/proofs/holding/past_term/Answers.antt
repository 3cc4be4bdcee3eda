-- Past the end there is no term, and else its tag says how wide it is.
use Rattle.std.proofs.Common.{arith, ◌≡◌, ◌<◌, length, get_or, ap, ◌∙◌}
use Rattle.std.specs.Prelude.{Ok}
use Rattle.procap.specs.declared.tag.TermTag.TheVariants.{NameTag, MomentTag}
use Rattle.std.proofs.lemmas.Grind.{common_steps}
use Rattle.state.proofs.Terms.{no_byte}
use Rattle.procap.proofs.ReadApart.{not_read}
use Rattle.door.proofs.Widths.{no_width, term_width, one_byte, tag_found, tag_missing}
use Rattle.door.proofs.holding.past_term.Goals as goal

pub returns-in_default-clause-ends : goal.returns-in_default-clause-ends
returns-in_default-clause-ends c t e r = absurd (not_read _ (no_byte _ _ (grind (arith, common_steps))) r)

pub returns-in_default-try_from-clause-ends : goal.returns-in_default-try_from-clause-ends
returns-in_default-try_from-clause-ends c t e r =
    let inside : c.args.at < length c.args.state.now = grind (arith, common_steps) in
    let byte : get_or c.args.state.now c.args.at 0 ≡ c.in-Some.byte.now = grind (arith, common_steps) in
    absurd (no_width _ _ _ inside byte (tag_missing _ c.try_from.ensures c.in_default-try_from.is) t e r)

pub returns-in-NameTag-clause-ends : goal.returns-in-NameTag-clause-ends
returns-in-NameTag-clause-ends c t e r =
    let inside : c.args.at < length c.args.state.now = grind (arith, common_steps) in
    let byte : get_or c.args.state.now c.args.at 0 ≡ c.in-Some.byte.now = grind (arith, common_steps) in
    term_width _ _ _ inside byte NameTag (tag_found _ c.try_from.ensures (c.in-Ok.is ∙ ap Ok c.in-NameTag.is)) t e r

pub returns-in-MomentTag-clause-ends : goal.returns-in-MomentTag-clause-ends
returns-in-MomentTag-clause-ends c t e r =
    let inside : c.args.at < length c.args.state.now = grind (arith, common_steps) in
    let byte : get_or c.args.state.now c.args.at 0 ≡ c.in-Some.byte.now = grind (arith, common_steps) in
    term_width _ _ _ inside byte MomentTag (tag_found _ c.try_from.ensures (c.in-Ok.is ∙ ap Ok c.in-MomentTag.is)) t e r

pub returns-in-MinusInfinityTag-clause-ends : goal.returns-in-MinusInfinityTag-clause-ends
returns-in-MinusInfinityTag-clause-ends c t e r =
    let inside : c.args.at < length c.args.state.now = grind (arith, common_steps) in
    let byte : get_or c.args.state.now c.args.at 0 ≡ c.in-Some.byte.now = grind (arith, common_steps) in
    rw (one_byte _ c.in-MinusInfinityTag.is) at (term_width _ _ _ inside byte _ (tag_found _ c.try_from.ensures c.in-Ok.is) t e r)
