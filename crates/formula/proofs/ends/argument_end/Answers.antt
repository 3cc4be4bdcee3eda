-- By cases of the tag.
use mathlib.Core.Path.{refl, sym}
use Rattle.std.specs.Prelude.{None}
use Rattle.bl.specs.Formulas.{place_by}
use Rattle.formula.proofs.TagsTold.{tag_told}
use Rattle.formula.proofs.PartsRead.{one_of_four, fixes_by}
use Rattle.formula.proofs.Endings.{no_argument, untagged_argument, argument_by}
use Rattle.formula.proofs.ends.argument_end.Goals as goal

pub returns-in_err-byte : goal.returns-in_err-byte
returns-in_err-byte c = rw c.from_residual.ensures (no_argument _ _ _ (sym c.in_err-byte.ensures.reads))

pub returns-in_err-tag : goal.returns-in_err-tag
returns-in_err-tag c =
    rw c.from_residual-in_err-tag.ensures
    (untagged_argument _ _ _ _ _ (sym c.in_ok-byte.ensures.reads) (tag_told c.try_from.ensures c.in_err-tag.ensures.value))

pub returns-in-NameTag : goal.returns-in-NameTag
returns-in-NameTag c =
    let sorts = c.args.binders.now in
    let fixes = one_of_four c.in-NameTag.is in
    argument_by _ _ _ _ _ (sym c.in_ok-byte.ensures.reads) _ c.fixed_end.result (tag_told c.try_from.ensures c.in_ok-tag.ensures.value)
    (rw (fixes_by c.args.part.now sorts c.in_ok-tag.tag fixes) (c.fixed_end.ensures sorts))

pub returns-in-VariableTag : goal.returns-in-VariableTag
returns-in-VariableTag c =
    argument_by _ _ _ _ _ (sym c.in_ok-byte.ensures.reads) _ c.variable_end.result (tag_told c.try_from.ensures c.in_ok-tag.ensures.value)
    (rw c.in-VariableTag.is c.variable_end.ensures)

pub returns-in-CtimeTag : goal.returns-in-CtimeTag
unfolding place_by
returns-in-CtimeTag c =
    argument_by _ _ _ _ _ (sym c.in_ok-byte.ensures.reads) _ None (tag_told c.try_from.ensures c.in_ok-tag.ensures.value)
    (rw c.in-CtimeTag.is refl)
