-- Two times end where the second does.
use Rattle.formula.proofs.Endings.{no_times, times_end}
use Rattle.formula.proofs.ends.two_times_end.Goals as goal

pub returns-in_err-middle : goal.returns-in_err-middle
returns-in_err-middle c = rw c.from_residual.ensures (no_times _ _ _ c.in_err-middle.ensures)

pub returns : goal.returns
returns c = times_end _ _ _ _ c.place_end-2.result c.in_ok-middle.ensures c.place_end-2.ensures
