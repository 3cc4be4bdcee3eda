-- Where nothing was seen the text says no procap. Where something was, the facts are read again on their lines, and with what else was seen
-- they make the procap that the text says.
use mathlib.Core.Path.{refl}
use Rattle.text.proofs.Readings.{procap_made, none_handed, some_handed}
use Rattle.text.proofs.Overviews.{overview_missing, overview_found}
use Rattle.text.proofs.reader.read_text.Goals as goal

pub returns-in_default : goal.returns-in_default
returns-in_default c =
    let handed = none_handed _ _ (refl, c.empty.ensures) (overview_missing _ c.in_default.ensures) in
    record { answer = handed.0; procap = handed.1 }

pub returns : goal.returns
returns c =
    let found = overview_found _ _ c.in-Some.ensures in
    let handed = some_handed _ _ _ refl
    (procap_made _ _ _ _ _ found.facts found.counted (c.facts_on.ensures found.facts (rw c.places.ensures found.on)))
    found.says in
    record { answer = handed.0; procap = handed.1 }
