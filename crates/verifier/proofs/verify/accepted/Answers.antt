-- A malformed case refuses, then a moment above the latest and a malformed state; else what the walk has come to is the answer.
use mathlib.Core.Path.{refl}
use Rattle.std.proofs.lemmas.Result.{err_from_is_err_and}
use Rattle.procap.proofs.Telling.{holds_else, fails_where}
use Rattle.state.specs.Standing.{WellFormed}
use Rattle.verifier.proofs.Answers.{direct_refused, moment_above, state_says_nothing, check_answers}
use Rattle.verifier.proofs.verify.accepted.Goals as goal

pub returns-in_err-read_case : goal.returns-in_err-read_case
returns-in_err-read_case c =
    let p = err_from_is_err_and c.from_residual.result c.from_residual.ensures.1 in
    rw (p.1, p.2) (direct_refused _ _ _ _ _ _ _ _ c.in_err-read_case.ensures.stops)

pub returns-then-moment-gt-LATEST_SECOND : goal.returns-then-moment-gt-LATEST_SECOND
returns-then-moment-gt-LATEST_SECOND c =
    let read = c.in_ok-read_case.ensures.stops in
    moment_above _ _ _ _ _ read.0 read.1 _ _ c.if-moment-gt-LATEST_SECOND.true

pub returns-then-not-well_formed : goal.returns-then-not-well_formed
returns-then-not-well_formed c =
    let told = c.well_formed-2 in
    let state = c.args.state.now in
    let read = c.in_ok-read_case.ensures.stops in
    state_says_nothing _ _ _ _ _ read.0 read.1 _ _ c.if-moment-gt-LATEST_SECOND.false
    (fails_where told.result {P = WellFormed state} c.if-not-well_formed.true-raw told.ensures)

pub returns : goal.returns
returns c =
    let told = c.well_formed-2 in
    let state = c.args.state.now in
    let says : WellFormed state = holds_else told.result c.if-not-well_formed.false-raw told.ensures in
    check_answers _ _ _ _ _ c.in_ok-read_case.ensures _ _ _ _ _ c.none-facts.ensures c.walked-ledger.ensures _ refl c.if-moment-gt-LATEST_SECOND.false says _ c.stop.ensures
