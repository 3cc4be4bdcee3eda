-- The terms passed are spelled, each after a space.
use mathlib.Core.Path.{◌≡◌, sym, ap}
use mathlib.Core.List.{List, ◌++◌, append-nil, append_assoc, map}
use native.Mathlib.Omega.{arith}
use lib.ListN.{length, get_or, length-append}
use Rattle.procap.specs.Facts.{no_argument}
use Rattle.procap.specs.declared.fact.Argument.{Argument}
use Rattle.text.specs.Words.{bytes_of}
use Rattle.text.specs.Text.{terms_text}
use Rattle.text.specs.Buffers.{most_text}
use Rattle.text.proofs.Joined.{argument_text, terms_joined, spelled_next, spelled_room}
use Rattle.text.proofs.spell.Pen.terms.Goals as goal

pub loop-argument-init : goal.loop-argument-init
unfolding terms_text
loop-argument-init c = sym (append-nil c.args.self.now)

pub word-requires : goal.word-requires
word-requires c =
    let here = c.loop-argument in
    let room = spelled_room argument_text (λ (xs : List Argument). terms_text (map (λ (a : Argument). a.term) xs)) terms_joined no_argument c.args.arguments.now here.argument-index (omega arith)
    c.args.self.now here.self here.invariant most_text c.requires in
    omega arith

pub term-requires : goal.term-requires
term-requires c =
    let here = c.loop-argument in
    let room = spelled_room argument_text (λ (xs : List Argument). terms_text (map (λ (a : Argument). a.term) xs)) terms_joined no_argument c.args.arguments.now here.argument-index (omega arith)
    c.args.self.now here.self here.invariant most_text c.requires in
    omega (arith, simp length-append at (ap length c.word.ensures))

pub loop-argument-preserved : goal.loop-argument-preserved
loop-argument-preserved c =
    let here = c.loop-argument in
    let next : c.term.new.self ≡ here.self ++ argument_text (get_or c.args.arguments.now here.argument-index no_argument) =
    rw (c.term.ensures, c.word.ensures) (append_assoc here.self (bytes_of " ") _) in
    spelled_next argument_text (λ xs. terms_text (map (λ a. a.term) xs)) terms_joined no_argument _ _ (omega arith) _ _ here.invariant _ next
