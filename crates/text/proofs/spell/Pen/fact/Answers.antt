-- The word, the predicate, the terms and the line feed are spelled one after the other.
use Prim.Native.Nat.{ℕ}
use mathlib.Core.Path.{ap, ◌∙◌}
use mathlib.Core.List.{append_assoc}
use native.Mathlib.Omega.{arith}
use lib.ListN.{take, length-append}
use Rattle.std.proofs.lemmas.List.{take_min}
use Rattle.procap.specs.Facts.{spelled}
use Rattle.text.specs.Text.{fact_text}
use Rattle.text.proofs.spell.Pen.fact.Goals as goal

pub terms-requires : goal.terms-requires
unfolding fact_text spelled
terms-requires c =
    let fact = c.args.fact.now in
    rw (ap (λ (k : ℕ). take k fact.arguments) c.min.ensures ∙ take_min fact.count fact.arguments, c.marked.ensures)
    (simp length-append (omega (arith, simp length-append at c.requires)))

pub word-requires : goal.word-requires
unfolding fact_text spelled
word-requires c =
    let fact = c.args.fact.now in
    rw (c.terms.ensures, ap (λ (k : ℕ). take k fact.arguments) c.min.ensures ∙ take_min fact.count fact.arguments, c.marked.ensures)
    (simp length-append (omega (arith, simp length-append at c.requires)))

pub returns : goal.returns
unfolding fact_text spelled
returns c =
    let fact = c.args.fact.now in
    rw (c.word.ensures, c.terms.ensures, ap (λ (k : ℕ). take k fact.arguments) c.min.ensures ∙ take_min fact.count fact.arguments, c.marked.ensures)
    (simp append_assoc)
