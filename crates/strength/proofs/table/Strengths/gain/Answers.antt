-- Those marked above the principal gain first, and then the principal itself.
use borrow.Author.Rules.{rules}
use Rattle.strength.proofs.Gaining.{AboveGain, nobody_above, above_gain, own_gains}
use Rattle.strength.proofs.table.Strengths.gain.Goals as goal
use Rattle.strength.proofs.table.Strengths.gain.Goals.{in-Some, in_default}

first : (c : goal.After-self-1) → AboveGain c.args.self.now c.match-place_of.self c.args.stronger c.args.gained
first c =
    elim c.match-place_of.branch [
      | in-Some w ↦ rw w.self-is (above_gain _ _ _ _ w.in-Some.ensures _ _ (search rules) w.gain_rows.ensures)
      | in_default w ↦ rw w.self-is (nobody_above _ _ _ w.in_default.ensures)
    ]

pub returns : goal.returns
returns c = own_gains _ _ _ _ _ c.known_place_of-own.ensures (search rules) (first c)
