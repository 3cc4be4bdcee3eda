-- What 25, 26, 2D, 31 and an inferring step where one is checked promise by a list of facts they promise by a list in numbers and its count:
-- the facts that stand in the numbers are such a list, and a walk that leads over the one leads over the other.
use Prim.Native.Nat.{ℕ}
use mathlib.Core.Path.{◌≡◌}
use mathlib.Core.List.{List}
use lib.ListN.{length}
use Rattle.bl.specs.Trees.{Formula}
use Rattle.bl.specs.Questions.{Test}
use Rattle.ledger.specs.declared.Ledger.{Ledger}
use Rattle.ledger.specs.Numbers.{list_numbers, facts_listed, Book, counted}
use Rattle.ledger.proofs.ListNumbers.{sound_facts, gives_numbers, leads_in_numbers}
use Rattle.formula.specs.declared.parts.Judgement.{Judgement}
use Rattle.judging.specs.declared.judge.Inferred.{Inferred}
use Rattle.judging.specs.declared.judge.Checked.{Checked}
use Rattle.judging.specs.declared.judge.Application.{Application}
use Rattle.judging.specs.Judging as judging
use Rattle.judging.specs.Judging.{and_then, falsity_inferred, fits_goal, used, unused}
use Rattle.judging.specs.StepPromises.{PutsToUse, MeetsGoal, ChecksInferred, ChecksFalsity}
use Rattle.judging.specs.Numbers as numbers
use Rattle.judging.specs.Numbers.{PutsToUseInNumbers, MeetsGoalInNumbers, ChecksInferredInNumbers, ChecksFalsityInNumbers}
use Rattle.judging.proofs.ByNumbers.{facts_of, yields_by_facts}

-- 25, 2D.
pub meets_in_numbers : (bytes : List ℕ) (goal : Judgement) (l : Ledger) (w : Formula → Test) (r : Ledger) → MeetsGoal bytes goal l w r → MeetsGoalInNumbers bytes goal l w r
meets_in_numbers bytes goal l w r meets state count list G s m =
    leads_in_numbers state list count l r (w G) tt s (λ facts sound. meets state facts G sound m)

-- 26.
pub used_in_numbers : (buffer proof : List ℕ) (q : ℕ) (inferred : Inferred) (second_end : ℕ) (r : Application) → PutsToUse buffer proof q inferred second_end r
    → PutsToUseInNumbers buffer proof q inferred second_end r
used_in_numbers buffer proof q inferred second_end r uses state count list F a b t1 t2 c e₃ e₄ going s on first second =
    let l = counted inferred.ledger count in
    elim (uses state (facts_listed list count) F a b t1 t2 c e₃ e₄ going (sound_facts list l s) on first second) [
      | used A B sides g premise conclusion middle next ↦ numbers.used A B sides (gives_numbers state list list l (counted r.ledger count) _ tt s.room g) premise conclusion middle next
      | unused sides g ↦ numbers.unused sides (gives_numbers state list list l (counted r.ledger count) _ tt s.room g)
    ]

-- A walk that is passed by the facts is passed by the numbers.
passes_in_numbers : (state : List ℕ) (b : Book) (w : Test) (e : ℕ) (r : Checked) (count : ℕ) (list : List ℕ) → length list ≡ list_numbers
    → judging.Passes state (facts_of b) w e r (facts_listed list count) → numbers.Passes state b w e r count list
passes_in_numbers state b w e r count list room p = record {
  gives = gives_numbers state b.list list b.counted (counted r.ledger count) w tt room p.gives;
  ends = p.ends;
}

-- An inferring step where one is checked, and 31.
pub inferred_in_numbers : (buffer bytes : List ℕ) (q : ℕ) (inferred : Inferred) (goal : Judgement) (r : Checked) → ChecksInferred buffer bytes q inferred goal r
    → ChecksInferredInNumbers buffer bytes q inferred goal r
inferred_in_numbers buffer bytes q inferred goal r checks state b w e count list G y m =
    passes_in_numbers state b (and_then w (λ j. fits_goal q j.0 j.1 j.2 G goal.from goal.to)) e r count list y.gives.sound.room
    (checks state (facts_of b) w e (facts_listed list count) G (yields_by_facts state buffer b w e inferred count list y) m)

pub falsity_in_numbers : (buffer : List ℕ) (q : ℕ) (inferred : Inferred) (r : Checked) → ChecksFalsity buffer q inferred r → ChecksFalsityInNumbers buffer q inferred r
falsity_in_numbers buffer q inferred r checks state b w e count list y =
    passes_in_numbers state b (and_then w (falsity_inferred q)) e r count list y.gives.sound.room
    (checks state (facts_of b) w e (facts_listed list count) (yields_by_facts state buffer b w e inferred count list y))
