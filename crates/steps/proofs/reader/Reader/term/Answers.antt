-- The byte at the place is the tag that the reader goes on from; past the end it reads none.
use mathlib.Core.Path.{◌∙◌}
use native.Mathlib.Omega.{arith}
use Rattle.steps.proofs.BytesAt.{as_before, inside}
use Rattle.steps.proofs.Opening.{no_term_at, term_untagged, term_tagged}
use Rattle.steps.proofs.reader.Reader.term.Goals as goal

pub returns-in_err-byte-clause-reads : goal.returns-in_err-byte-clause-reads
returns-in_err-byte-clause-reads c = rw c.from_residual.ensures (no_term_at _ _ c.in_err-byte.ensures)

pub returns-in_err-tag-clause-reads : goal.returns-in_err-tag-clause-reads
returns-in_err-tag-clause-reads c =
    rw c.from_residual-in_err-tag.ensures
    (term_untagged c.args.self.proof.now c.args.self.at c.in_ok-byte.ensures (c.in_err-tag.ensures.value ∙ (rw c.try_from.ensures (as_before _ _))))

pub overflow_add-self : goal.overflow_add-self
overflow_add-self c = omega (arith, inside c.args.self.proof.now c.args.self.at c.in_ok-byte.ensures)

pub returns-clause-reads : goal.returns-clause-reads
returns-clause-reads c =
    c.term_by.ensures.reads
    ∙ term_tagged c.args.self.proof.now c.args.self.at c.in_ok-byte.ensures (c.in_ok-tag.ensures.value ∙ (rw c.try_from.ensures (as_before _ _)))
