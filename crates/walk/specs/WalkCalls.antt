-- The promise of each call of the walk, over what it is lent.
use Rattle.std.specs.Prelude.{ℕ, ◌-◌, ◌≡◌, List, get_or, Some}
use Rattle.procap.specs.Lent.{LentToWrite}
use Rattle.bl.specs.declared.InferTag.{InferTag}
use Rattle.bl.specs.declared.CheckTag.{CheckTag}
use Rattle.bl.specs.declared.CheckTag.TheVariants.{AtInTag, AtOutTag, SaysInTag, SaysOutTag, OrLeftTag, OrRightTag, FalsityOutTag}
use Rattle.bl.specs.Tags.{check_tag}
use Rattle.judging.specs.declared.judge.Inferred.{Inferred}
use Rattle.judging.specs.declared.judge.Checked.{Checked}
use Rattle.judging.specs.declared.judge.Shell.{Shell}
use Rattle.judging.specs.declared.judge.Shell.TheVariants.{AtShell, SaysShell, LeftShell, RightShell}
use Rattle.ledger.specs.Asking.{ListLent}
use Rattle.walk.specs.declared.Here.{Here}
use Rattle.walk.specs.declared.Goal.{Goal}
use Rattle.walk.specs.declared.Sources as code
use Rattle.walk.specs.Walking.{Sources, Keeps, InfersAt, InfersBy, ChecksAt, ChecksBy}

-- What is lent all through, as the lists that stand there.
abbrev pub sources : code.Sources → Sources
sources lent = record {
  buffer = lent.buffer.now;
  proof = lent.proof.now;
  state = lent.state.now;
  certificates = lent.certificates.now;
  strengths = lent.strengths;
  ends = lent.ends.now;
}

-- The tag of a step that checks stands at its place.
abbrev pub TagStands : List ℕ → Here → CheckTag → Type 0
TagStands proof here tag = check_tag (get_or proof here.at 0) ≡ Some tag

-- The steps that put a formula into a shell, and those that take one out of it.
pub data Puts : CheckTag → Shell → Type 0 where
  puts_at : Puts AtInTag AtShell
  puts_says : Puts SaysInTag SaysShell
  puts_left : Puts OrLeftTag LeftShell
  puts_right : Puts OrRightTag RightShell

pub data TakesOut : CheckTag → Shell → Type 0 where
  takes_at : TakesOut AtOutTag AtShell
  takes_says : TakesOut SaysOutTag SaysShell

module _ (S : Sources) (facts : ListLent) (assumptions : LentToWrite) where
  -- A step that infers, of at most so many levels.
  abbrev pub Infers : Here → Inferred → Type 0
  Infers here r = InfersAt S assumptions.entry.now here.scope here.ledger facts.entry.now here.left here.at r facts.exit.now

  -- The same, by its tag.
  abbrev pub InfersTagged : InferTag → Here → Inferred → Type 0
  InfersTagged tag here r = InfersBy S assumptions.entry.now here.scope here.ledger facts.entry.now (here.left - 1) tag here.at r facts.exit.now

  module _ (goal : Goal) (here : Here) (r : Checked) where
    -- A step that checks, of at most so many levels.
    abbrev pub Checks : Type 0
    Checks =
        ChecksAt S assumptions.entry.now here.scope here.ledger facts.entry.now here.left goal.bytes.now goal.judgement here.at r facts.exit.now

    -- The same, by its tag.
    abbrev pub ChecksTagged : CheckTag → Type 0
    ChecksTagged tag =
        ChecksBy S assumptions.entry.now here.scope here.ledger facts.entry.now (here.left - 1) tag goal.bytes.now goal.judgement here.at r facts.exit.now

    -- The step that puts a formula into a shell, and the one that takes it out.
    abbrev pub ChecksPut : Shell → Type 0
    ChecksPut shell = (tag : CheckTag) → Puts tag shell → ChecksTagged tag

    abbrev pub ChecksTaken : Shell → Type 0
    ChecksTaken shell = (tag : CheckTag) → TakesOut tag shell → ChecksTagged tag

-- The step that shows any goal from falsity.
abbrev pub ShowsAll : Sources → ListLent → LentToWrite → Here → Checked → Type 0
ShowsAll S facts assumptions here r = (goal : Goal) → ChecksTagged S facts assumptions goal here r FalsityOutTag

-- The rows of the assumptions that stand around are kept.
abbrev pub KeepsRows : Here → LentToWrite → Type 0
KeepsRows here assumptions = Keeps here.scope.count assumptions.entry.now assumptions.exit.now
