-- The principal is at least as strong as the view's, and then the intervals are asked about; or it is not, or the view is
-- nobody's, and it does not fit.
use Rattle.std.proofs.Common.{refl}
use Rattle.bl.specs.Walk.{need_view}
use Rattle.procap.proofs.Telling.{fails_where, holds_else}
use Rattle.judging.specs.Judging.{view_in}
use Rattle.judging.proofs.Coming.{stops}
use Rattle.judging.proofs.WalkParts.{own_view, other_view}
use Rattle.judging.proofs.judge.in_view.Goals as goal

pub returns-in_default : goal.returns-in_default
unfolding view_in need_view
returns-in_default c = λ ps strong state list s. stops s (rw c.in_default.is refl) c.misfit-unfit.ensures

pub returns-then-not-as_strong : goal.returns-then-not-as_strong
unfolding view_in
returns-then-not-as_strong c =
    λ ps strong state list s.
    let weak = fails_where c.as_strong.result c.if-not-as_strong.true-raw (c.as_strong.ensures ps strong) in
    stops s (rw c.in-Some.is (other_view _ ps _ _ _ _ _ _ weak)) c.misfit-unfit.ensures

pub returns : goal.returns
unfolding view_in
returns c =
    λ ps strong state list s.
    let enough = holds_else c.as_strong.result c.if-not-as_strong.false-raw (c.as_strong.ensures ps strong) in
    rw (c.in-Some.is, own_view _ ps _ _ _ _ _ _ enough) (c.covers.ensures state list s)
