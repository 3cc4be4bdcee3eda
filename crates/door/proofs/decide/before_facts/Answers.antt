-- Each return is the answer at the first test that is not passed, and the last one leaves the answer to the facts.
use Rattle.procap.specs.Outcome.{go_on}
use mathlib.Core.Path.{refl}
use Rattle.procap.proofs.Telling.{holds, fails}
use Rattle.door.proofs.Refusals.{above_latest, state_malformed, request_differs, too_early, too_late, left_to_the_facts}
use Rattle.door.proofs.decide.before_facts.Goals as goal

pub returns-then-moment-gt-LATEST_SECOND : goal.returns-then-moment-gt-LATEST_SECOND
unfolding go_on
returns-then-moment-gt-LATEST_SECOND c = rw (above_latest _ _ _ _ _ _ c.if-moment-gt-LATEST_SECOND.true) refl

pub returns-then-not-well_formed : goal.returns-then-not-well_formed
unfolding go_on
returns-then-not-well_formed c =
    let formed = c.well_formed-2 in
    rw (state_malformed _ _ _ _ _ _ c.if-moment-gt-LATEST_SECOND.false (fails formed.result c.if-not-well_formed.true formed.ensures)) refl

pub returns-then-not-ask_for : goal.returns-then-not-ask_for
unfolding go_on
returns-then-not-ask_for c =
    let formed = c.well_formed-2 in
    let reads = holds formed.result c.if-not-well_formed.false formed.ensures in
    rw (request_differs _ _ _ _ _ _ c.if-moment-gt-LATEST_SECOND.false reads (fails c.ask_for.result c.if-not-ask_for.true c.ask_for.ensures)) refl

pub returns-then-moment-from : goal.returns-then-moment-from
unfolding go_on
returns-then-moment-from c =
    let formed = c.well_formed-2 in
    let reads = holds formed.result c.if-not-well_formed.false formed.ensures in
    let own = holds c.ask_for.result c.if-not-ask_for.false c.ask_for.ensures in
    rw (too_early _ _ _ _ _ _ c.if-moment-gt-LATEST_SECOND.false reads own c.if-moment-from.true) refl

pub returns-then-to-moment : goal.returns-then-to-moment
unfolding go_on
returns-then-to-moment c =
    let formed = c.well_formed-2 in
    let reads = holds formed.result c.if-not-well_formed.false formed.ensures in
    let own = holds c.ask_for.result c.if-not-ask_for.false c.ask_for.ensures in
    rw (too_late _ _ _ _ _ _ c.if-moment-gt-LATEST_SECOND.false reads own c.if-moment-from.false c.if-to-moment.true) refl

pub returns : goal.returns
unfolding go_on
returns c =
    let formed = c.well_formed-2 in
    let reads = holds formed.result c.if-not-well_formed.false formed.ensures in
    let own = holds c.ask_for.result c.if-not-ask_for.false c.ask_for.ensures in
    rw (left_to_the_facts _ _ _ _ _ _ c.if-moment-gt-LATEST_SECOND.false reads own c.if-moment-from.false c.if-to-moment.false) refl
