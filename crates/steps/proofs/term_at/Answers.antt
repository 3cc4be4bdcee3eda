-- What was found is what the reader finds; where there is none, name 0 is in form.
use mathlib.Core.Path.{sym}
use native.Mathlib.Omega.{arith}
use Rattle.procap.specs.Writable.{TermInForm}
use Rattle.steps.proofs.TermsGiven.{given_found, given_none}
use Rattle.steps.proofs.term_at.Goals as goal

pub returns-in-Some-clause-reads : goal.returns-in-Some-clause-reads
returns-in-Some-clause-reads c = given_found _ _ (sym c.in-Some.ensures.reads)

pub returns-in-None-clause-reads : goal.returns-in-None-clause-reads
returns-in-None-clause-reads c = given_none _ _ (sym c.in-None.ensures.reads)

pub returns-in-None-clause-in_form : goal.returns-in-None-clause-in_form
unfolding TermInForm
returns-in-None-clause-in_form c = omega arith
