-- Where the latest moment is before the earliest nothing is issued; else the procap is made of what the ledger keeps.
use mathlib.Core.Path.{◌∙◌}
use Rattle.ledger.proofs.Listing.{held_kept}
use Rattle.verifier.proofs.Answers.{none_left, some_left}
use Rattle.verifier.proofs.verify.issued.Goals as goal

pub returns-then-ledger : goal.returns-then-ledger
returns-then-ledger c = λ sound. none_left _ _ _ c.if-ledger.true

pub returns : goal.returns
returns c = λ sound. some_left _ _ _ c.if-ledger.false _ (c.procap.ensures ∙ held_kept _ _ _ sound)
