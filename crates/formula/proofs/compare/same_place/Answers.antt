-- Each pair of kinds is one law: variables by their numbers, terms as terms, and what is of another kind does not fit.
use Rattle.formula.proofs.ComparingPlaces.{variables_same, variable_no_term, term_no_variable, terms_same}
use Rattle.formula.proofs.compare.same_place.Goals as goal

pub returns-in-Bound-other : goal.returns-in-Bound-other
returns-in-Bound-other c =
    variables_same _ _ _ _ _ _ _
    c.in-Bound.is
    c.in-Bound-other.is
    c.same_number.ensures

pub returns-in-Fixed-other : goal.returns-in-Fixed-other
returns-in-Fixed-other c =
    variable_no_term _ _ _ _ _ _ _
    c.in-Bound.is
    c.in-Fixed-other.is
    c.misfit.ensures

pub returns-in-Bound-other-2 : goal.returns-in-Bound-other-2
returns-in-Bound-other-2 c =
    term_no_variable _ _ _ _ _ _ _
    c.in-Fixed.is
    c.in-Bound-other-2.is
    c.misfit-in-Bound-other-2.ensures

pub returns-in-Fixed-other-2 : goal.returns-in-Fixed-other-2
returns-in-Fixed-other-2 c =
    terms_same _ _ _ _ _ _ _
    c.in-Fixed.is
    c.in-Fixed-other-2.is
    c.same_term.ensures
