-- The lines of the facts passed are spelled.
use Rattle.std.proofs.Common.{◌≡◌, ◌++◌, map, take}
use Rattle.procap.specs.Facts.{spelled}
use Rattle.text.specs.Text.{facts_text}
use Rattle.text.proofs.spell.Pen.facts.Given as goal

abbrev pub invariant-loop-fact : goal.invariant-loop-fact
invariant-loop-fact l = l.self ≡ l.initial.self ++ facts_text (map spelled (take l.fact-index l.facts))
