-- Past the end nothing stands; else the tag there says what does.
use mathlib.Core.Path.{sym}
use Rattle.formula.proofs.TagsTold.{tag_told}
use Rattle.formula.proofs.PartsRead.{one_of_four, none_found, untagged, ctime_found, fixed_found, variable_found}
use Rattle.formula.proofs.parts.place_if_any.Goals as goal

pub returns-in_err-byte : goal.returns-in_err-byte
returns-in_err-byte c = none_found _ _ _ _ _ (sym c.in_err-byte.ensures.reads)

pub returns-in_err-tag : goal.returns-in_err-tag
returns-in_err-tag c = untagged _ _ _ _ _ _ _ (sym c.in_ok-byte.ensures.reads) (tag_told c.try_from.ensures c.in_err-tag.ensures.value)

pub returns-in-NameTag : goal.returns-in-NameTag
returns-in-NameTag c =
    fixed_found _ _ _ _ _ _ _ (sym c.in_ok-byte.ensures.reads) _ (tag_told c.try_from.ensures c.in_ok-tag.ensures.value)
    (one_of_four c.in-NameTag.is) c.fixed_by.ensures

pub returns-in-VariableTag : goal.returns-in-VariableTag
returns-in-VariableTag c =
    variable_found _ _ _ _ _ _ _ (sym c.in_ok-byte.ensures.reads) _ (tag_told c.try_from.ensures c.in_ok-tag.ensures.value)
    c.in-VariableTag.is c.variable_at.ensures

pub returns-in-CtimeTag : goal.returns-in-CtimeTag
returns-in-CtimeTag c =
    ctime_found _ _ _ _ _ _ _ (sym c.in_ok-byte.ensures.reads) _ (tag_told c.try_from.ensures c.in_ok-tag.ensures.value) c.in-CtimeTag.is
