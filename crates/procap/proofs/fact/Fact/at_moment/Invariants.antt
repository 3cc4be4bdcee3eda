-- The loop has put the moment into the arguments passed, and left the others.
use Prim.Native.Nat.{ℕ}
use mathlib.Core.Path.{◌≡◌}
use Rattle.procap.proofs.Indices.{partly}
use Rattle.procap.specs.Facts.{argument_of, term_at_moment}
use Rattle.procap.specs.declared.fact.Argument.{Argument}
use Rattle.procap.proofs.fact.Fact.at_moment.Given as goal

-- The argument with the moment put for ctime.
abbrev put : ℕ → Argument → Argument
put m a = argument_of (term_at_moment m a.term)

abbrev pub invariant-loop-argument : goal.invariant-loop-argument
invariant-loop-argument l = l.argument-items ≡ partly (put l.moment) l.argument-index l.fn.self.arguments
