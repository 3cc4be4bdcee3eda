-- The word, the pairs and the line's end are read one after another. Where a line feed stands after the pairs these are all the digits;
-- where none does, the line does not read, whether or not a digit is left over.
use Prim.Native.Nat.{◌≤◌}
use mathlib.Core.Path.{◌≡◌, sym, subst, ◌∙◌}
use Rattle.std.specs.Prelude.{None, Some}
use native.Mathlib.Omega.{arith}
use lib.ListN.{length}
use Rattle.text.specs.Words.{bytes_of}
use Rattle.text.specs.Line.{literal}
use Rattle.text.proofs.Forms.{missing_on}
use Rattle.text.proofs.Words.{no_word, word_to}
use Rattle.cases.proofs.WentOn.{not_found, word_within, feed_further}
use Rattle.cases.proofs.HexLines.{hex_no_word, hex_ends_not, hex_went}
use Rattle.cases.proofs.reader.CaseReader.hex.Goals as goal
use Rattle.cases.proofs.reader.CaseReader.hex.Goals.{In_ok-line_end}

-- The line's end stands where the pairs end.
feed : (c : In_ok-line_end) → literal c.pairs.new.self.input (bytes_of "\n") c.pairs.new.self.at ≡ Some (tt, c.in_ok-line_end.line_end)
feed c =
    subst (λ s. literal s.input (bytes_of "\n") s.at ≡ Some (tt, c.in_ok-line_end.line_end)) c.self-2.view_is
    (word_to _ _ (sym c.in_ok-line_end.ensures.ok_part ∙ c.after-2.ensures))

pub returns-in_err-self-inside : goal.returns-in_err-self-inside
returns-in_err-self-inside c =
    let none = c.in_err-self-inside.ensures in
    rw (← c.self.view_is)
    (missing_on _ _ _ _ c.from_residual.ensures.1 _ _ none.value none.ok_part
    (not_found _ _ (hex_no_word _ _ _ (no_word _ (sym none.ok_part ∙ c.after.ensures)))))

pub invariant_of-self : goal.invariant_of-self
invariant_of-self c =
    let word = word_within _ _ _ _ (word_to _ _ (sym c.in_ok-self-inside.ensures.ok_part ∙ c.after.ensures)) c.self.invariant.1 in
    (omega arith, word.1, omega (arith, word.0), omega (arith, word.0))

pub returns-in_err-line_end : goal.returns-in_err-line_end
returns-in_err-line_end c =
    let none = c.in_err-line_end.ensures in
    let word = word_to _ _ (sym c.in_ok-self-inside.ensures.ok_part ∙ c.after.ensures) in
    let missing =
    subst (λ s. literal s.input (bytes_of "\n") s.at ≡ None) c.self-2.view_is (no_word _ (sym none.ok_part ∙ c.after-2.ensures)) in
    rw (← c.self.view_is)
    (missing_on _ _ _ _ c.from_residual-in_err-line_end.ensures.1 _ _ none.value none.ok_part
    (not_found _ _ (hex_ends_not _ _ _ _ word _ _ _ c.pairs.ensures.reads (rw c.pairs.ensures.same.0 at missing))))

pub go_to-requires-clause-further : goal.go_to-requires-clause-further
go_to-requires-clause-further c =
    (feed_further _ _ _ (feed (goal.at.go_to-requires-clause-further c).In_ok-line_end) (subst (λ s. s.at ≤ length s.input) c.self-2.view_is c.self-2.invariant.1)).0

pub go_to-requires-clause-inside : goal.go_to-requires-clause-inside
go_to-requires-clause-inside c =
    (feed_further _ _ _ (feed (goal.at.go_to-requires-clause-inside c).In_ok-line_end) (subst (λ s. s.at ≤ length s.input) c.self-2.view_is c.self-2.invariant.1)).1

pub returns : goal.returns
returns c =
    let word = word_to _ _ (sym c.in_ok-self-inside.ensures.ok_part ∙ c.after.ensures) in
    let same = c.pairs.ensures.same in
    rw (← c.self.view_is)
    (hex_went _ c.pairs.new.self _ _ _ _ word c.pairs.ensures.reads same.0 same.1 (feed (goal.at.returns c).In_ok-line_end) c.go_to.ensures)
