-- By what is to be read: the second part of a 26 leaves itself and its times, two steps are left as they are; a step goes by its tag.
use mathlib.Core.Path.{refl, ◌∙◌}
use Rattle.steps.specs.Todo.{parts, left}
use Rattle.steps.proofs.Opening.{no_inferring, infers_none, infers}
use Rattle.steps.proofs.todo.Source.open.Goals as goal

pub returns-in-Times : goal.returns-in-Times
unfolding parts
returns-in-Times c = rw c.in-Times.is (c.open_times.ensures _)

pub returns-in-Second : goal.returns-in-Second
unfolding parts left
returns-in-Second c = rw c.in-Second.is refl

pub returns-in-Both : goal.returns-in-Both
unfolding parts left
returns-in-Both c = rw c.in-Both.is refl

pub returns-in_err-room-in-Inferring : goal.returns-in_err-room-in-Inferring
returns-in_err-room-in-Inferring c =
    rw (c.in-Inferring.is, c.from_residual.ensures) (no_inferring _ _ _ _ c.in_err-room-in-Inferring.ensures.less)

pub returns-in_err-tag-in-Inferring : goal.returns-in_err-tag-in-Inferring
returns-in_err-tag-in-Inferring c =
    rw (c.in-Inferring.is, c.from_residual-in_err-tag-in-Inferring.ensures)
    (infers_none _ _ _ _ c.in_ok-room-in-Inferring.ensures.less c.in_err-tag-in-Inferring.ensures)

pub returns-in_ok-tag-in-Inferring : goal.returns-in_ok-tag-in-Inferring
returns-in_ok-tag-in-Inferring c =
    rw c.in-Inferring.is
    (c.open_inferring.ensures
    ∙ infers _ _ _ _ c.in_ok-room-in-Inferring.ensures.less c.in_ok-tag-in-Inferring.ensures c.past.ensures.there)
