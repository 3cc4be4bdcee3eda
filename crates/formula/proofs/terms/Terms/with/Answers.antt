-- By cases of whether there is room.
use borrow.Author.Tests.{lt-ltb, le-ltb}
use Rattle.bl.specs.Formulas.{most_binders}
use Rattle.formula.specs.PutIn.{terms_with}
use Rattle.formula.proofs.terms.Terms.with.Goals as goal

pub returns-then-count-ge-MOST_BINDERS : goal.returns-then-count-ge-MOST_BINDERS
unfolding terms_with
returns-then-count-ge-MOST_BINDERS c = rw (le-ltb _ most_binders c.if-count-ge-MOST_BINDERS.true)

pub returns : goal.returns
unfolding terms_with
returns c = rw (c.number.ensures, lt-ltb _ most_binders c.if-count-ge-MOST_BINDERS.false)
