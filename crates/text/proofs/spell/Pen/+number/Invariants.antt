-- The tenth of a number of two digits or more is smaller.
use Rattle.text.proofs.spell.Pen.+number.Given as goal

abbrev pub decreases-number : goal.decreases-number
decreases-number l = l.number
