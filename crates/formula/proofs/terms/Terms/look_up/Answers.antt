-- The variable stands under a binder of its own, or is further out than any term, or finds its term so far back from the last.
use native.Mathlib.Omega.{arith}
use Rattle.formula.specs.PutIn.{place_of, slot}
use Rattle.formula.proofs.PuttingIn.{own_bound, not_put, is_put}
use Rattle.formula.proofs.terms.Terms.look_up.Goals as goal

pub returns-then-variable-under : goal.returns-then-variable-under
unfolding place_of
returns-then-variable-under c few = own_bound _ _ _ c.if-variable-under.true

pub returns-then-self-back : goal.returns-then-self-back
unfolding place_of
returns-then-self-back c few = not_put _ _ _ c.if-variable-under.false c.if-self-back.true

pub returns : goal.returns
unfolding place_of slot
returns c few = is_put _ _ _ (omega arith) _ (omega arith) c.of_number.ensures
