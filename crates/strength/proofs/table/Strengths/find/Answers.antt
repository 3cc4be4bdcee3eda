-- The names are put where nobody is marked, and then all pairs are taken.
use mathlib.Core.Path.{◌∙◌}
use Rattle.strength.proofs.NamesPut.{unmarked}
use Rattle.strength.proofs.table.Strengths.find.Goals as goal

pub returns-then-pairs-le-MOST_PAIRS : goal.returns-then-pairs-le-MOST_PAIRS
returns-then-pairs-le-MOST_PAIRS c few none = c.take_pairs.ensures (unmarked _ (c.put_names.ensures.marks ∙ none))
