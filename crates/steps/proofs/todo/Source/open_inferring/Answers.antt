-- By the tag: what is left is what the page says of it.
use mathlib.Core.Path.{refl}
use mathlib.Core.Logic.{inl, inr}
use Rattle.steps.specs.Todo.{inferring_parts, left}
use Rattle.steps.proofs.Opening.{no_put, put}
use Rattle.steps.proofs.todo.Source.open_inferring.Goals as goal

pub returns-in-LocalTag : goal.returns-in-LocalTag
unfolding inferring_parts
returns-in-LocalTag c = rw (c.in-LocalTag.is, ← c.around.ensures) c.open_index.ensures

pub returns-in-CertificateTag : goal.returns-in-CertificateTag
unfolding inferring_parts
returns-in-CertificateTag c = rw c.in-CertificateTag.is c.open_index-in-CertificateTag.ensures

pub returns-in-FirstTag : goal.returns-in-FirstTag
unfolding inferring_parts left
returns-in-FirstTag c = elim c.in-FirstTag.is [ inl e ↦ rw e refl | inr e ↦ rw e refl ]

pub returns-in-ApplyTag : goal.returns-in-ApplyTag
unfolding inferring_parts left
returns-in-ApplyTag c = rw c.in-ApplyTag.is refl

pub returns-in_err-next-in-InstanceTag : goal.returns-in_err-next-in-InstanceTag
returns-in_err-next-in-InstanceTag c =
    rw (c.in-InstanceTag.is, c.from_residual.ensures) (no_put _ _ _ _ c.in_err-next-in-InstanceTag.ensures.reads)

pub returns-in_ok-next-in-InstanceTag : goal.returns-in_ok-next-in-InstanceTag
unfolding left
returns-in_ok-next-in-InstanceTag c = rw c.in-InstanceTag.is (put _ _ _ _ c.in_ok-next-in-InstanceTag.ensures.reads)
