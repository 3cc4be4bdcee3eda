-- The lines of the facts passed are spelled.
use mathlib.Core.Path.{sym}
use mathlib.Core.List.{append-nil, map}
use native.Mathlib.Omega.{arith}
use Rattle.procap.specs.Facts.{spelled}
use Rattle.text.specs.Text.{facts_text}
use Rattle.text.proofs.Joined.{line_of, facts_joined, spelled_next, spelled_room}
use Rattle.text.proofs.spell.Pen.facts.Goals as goal

pub loop-fact-init : goal.loop-fact-init
unfolding facts_text
loop-fact-init c = sym (append-nil c.args.self.now)

pub fact-requires : goal.fact-requires
fact-requires c = spelled_room line_of (λ fs. facts_text (map spelled fs)) facts_joined _ _ _ (omega arith) _ _ c.loop-fact.invariant _ c.requires

pub loop-fact-preserved : goal.loop-fact-preserved
loop-fact-preserved c =
    spelled_next line_of (λ fs. facts_text (map spelled fs)) facts_joined _ _ _ (omega arith) _ _ c.loop-fact.invariant _ c.fact.ensures
