-- As many terms count in both, and each of the one, with the moment put, is the other's, exactly where the two are spelled the same.
use Rattle.std.proofs.Common.{rules}
use mathlib.Core.Path.{sym, ◌∙◌}
use lib.ListN.{take}
use Rattle.std.proofs.lemmas.Iterator.{YieldsList-from_slice, YieldsList-from_zip, same_from_all}
use Rattle.procap.proofs.Compared.{terms_told}
use Rattle.procap.proofs.Slices.{yields_made}
use Rattle.procap.proofs.Spelling.{same_predicate, counted, put_counted, as_many, put_by}
use Rattle.procap.proofs.Telling.{tells_other}
use Rattle.procap.specs.Facts.{term_at_moment, fact_at_moment, spelled, spelled_at_moment}
use Rattle.procap.proofs.fact.Fact.same_at.Goals as goal

pub returns-then-terms-others : goal.returns-then-terms-others
unfolding spelled spelled_at_moment
returns-then-terms-others c =
    let f = c.args.self in
    let g = c.args.other in
    let m = c.args.moment in
    put_by m f g _ c.if-self-other.false
    (same_from_all c.all.new.self _ _ (spelled_at_moment m (spelled f)).1 (spelled g).1 c.all.ensures.ran
    (YieldsList-from_zip
    (yields_made (term_at_moment m) (yields_made (λ a. a.term) (YieldsList-from_slice (take f.count f.arguments) cc)))
    (yields_made (λ a. a.term) (YieldsList-from_slice (take g.count g.arguments) cc)))
    (put_counted m f ∙ (rw (c.terms-terms.ensures, c.terms-others.ensures) at c.if-terms-others.true) ∙ sym (counted g))
    (λ x q k. search (rules, terms_told))
    (λ x q k. search (rules, terms_told)))

pub returns-else-terms-others : goal.returns-else-terms-others
returns-else-terms-others c =
    tells_other _ _ c.if-terms-others.false
    (λ s. c.if-terms-others.false (rw (c.terms-terms.ensures, c.terms-others.ensures) (as_many _ _ _ s)))

pub returns-then-self-other : goal.returns-then-self-other
unfolding fact_at_moment
returns-then-self-other c = λ s. c.if-self-other.true (same_predicate _ _ s)
