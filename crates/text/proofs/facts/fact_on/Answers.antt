-- What is read from the line of a fact is this fact.
use mathlib.Core.Path.{sym, ◌∙◌}
use Rattle.std.proofs.lemmas.Option.{none-some}
use Rattle.text.proofs.OnLines.{read_is}
use Rattle.text.proofs.facts.fact_on.Goals as goal

pub returns-in-Some-clause-read : goal.returns-in-Some-clause-read
returns-in-Some-clause-read c f e k = read_is _ _ c.in-Some.ensures f e k

pub returns-in-None-clause-read : goal.returns-in-None-clause-read
returns-in-None-clause-read c f e k = absurd (none-some _ (sym c.in-None.ensures ∙ k))
