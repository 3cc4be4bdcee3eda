-- The letter says which term follows; any other byte, and the text's end, say none.
use mathlib.Core.Path.{refl, sym, ◌∙◌}
use borrow.Author.Rules.{rules}
use Rattle.procap.specs.declared.tag.TermTag.TheVariants.{NameTag, MomentTag, MinusInfinityTag, PlusInfinityTag, CtimeTag}
use Rattle.text.specs.Reader.{term_with}
use Rattle.text.proofs.Terms.{name_here, no_name, moment_here, no_moment, no_term_past, term_here, other_letter}
use Rattle.text.proofs.facts.term_at.Goals as goal

pub returns-in_err-get : goal.returns-in_err-get
returns-in_err-get c = c.from_residual.ensures ∙ sym (no_term_past _ _ c.in_err-get.ensures.lookup.3)

-- A name and a moment are their numbers.
pub returns-in_err-name-in-110 : goal.returns-in_err-name-in-110
returns-in_err-name-in-110 c =
    let here = c.in_ok-get.ensures.lookup.3 in
    let none = no_name _ _ (sym c.in_err-name-in-110.ensures.reads) in
    c.from_residual-in_err-name-in-110.ensures ∙ sym (term_here _ _ here.0 0x6e NameTag (sym (here.1 0) ∙ c.in-110.is) refl ∙ none)

pub returns-in_ok-name-in-110 : goal.returns-in_ok-name-in-110
returns-in_ok-name-in-110 c =
    let here = c.in_ok-get.ensures.lookup.3 in
    let name = name_here _ _ _ _ (sym c.in_ok-name-in-110.ensures.reads) in
    sym (term_here _ _ here.0 0x6e NameTag (sym (here.1 0) ∙ c.in-110.is) refl ∙ name)

pub returns-in_err-second-in-116 : goal.returns-in_err-second-in-116
returns-in_err-second-in-116 c =
    let here = c.in_ok-get.ensures.lookup.3 in
    let none = no_moment _ _ (sym c.in_err-second-in-116.ensures.reads) in
    c.from_residual-in_err-second-in-116.ensures ∙ sym (term_here _ _ here.0 0x74 MomentTag (sym (here.1 0) ∙ c.in-116.is) refl ∙ none)

pub returns-in_ok-second-in-116 : goal.returns-in_ok-second-in-116
returns-in_ok-second-in-116 c =
    let here = c.in_ok-get.ensures.lookup.3 in
    let moment = moment_here _ _ _ _ (sym c.in_ok-second-in-116.ensures.reads) in
    sym (term_here _ _ here.0 0x74 MomentTag (sym (here.1 0) ∙ c.in-116.is) refl ∙ moment)

-- A sign is a term by itself.
pub returns-in-45 : goal.returns-in-45
unfolding term_with
returns-in-45 c = let here = c.in_ok-get.ensures.lookup.3 in sym (term_here _ _ here.0 0x2d MinusInfinityTag (sym (here.1 0) ∙ c.in-45.is) refl)

pub returns-in-43 : goal.returns-in-43
unfolding term_with
returns-in-43 c = let here = c.in_ok-get.ensures.lookup.3 in sym (term_here _ _ here.0 0x2b PlusInfinityTag (sym (here.1 0) ∙ c.in-43.is) refl)

pub returns-in-99 : goal.returns-in-99
unfolding term_with
returns-in-99 c = let here = c.in_ok-get.ensures.lookup.3 in sym (term_here _ _ here.0 0x63 CtimeTag (sym (here.1 0) ∙ c.in-99.is) refl)

pub returns-in_default : goal.returns-in_default
returns-in_default c =
    let here = c.in_ok-get.ensures.lookup.3 in
    sym (other_letter _ _ here.0 (search rules) (search rules) (search rules) (search rules) (search rules))
