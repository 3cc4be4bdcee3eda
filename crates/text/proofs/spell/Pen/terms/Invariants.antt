-- The terms passed are spelled, each after a space.
use Rattle.std.proofs.Common.{◌≡◌, ◌++◌, map, take}
use Rattle.text.specs.Text.{terms_text}
use Rattle.text.proofs.spell.Pen.terms.Given as goal

abbrev pub invariant-loop-argument : goal.invariant-loop-argument
invariant-loop-argument l = l.self ≡ l.initial.self ++ terms_text (map (λ a. a.term) (take l.argument-index l.arguments))
