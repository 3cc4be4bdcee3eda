-- A text that begins with the word at a place has just its bytes there.
use Rattle.text.proofs.Words.{word_here, no_word_here}
use Rattle.text.proofs.line.after.Goals as goal

pub returns-then-starts_with : goal.returns-then-starts_with
returns-then-starts_with c = word_here _ _ _ _ c.min.ensures c.if-starts_with.ensures.value

pub returns-else-starts_with : goal.returns-else-starts_with
returns-else-starts_with c = no_word_here _ _ _ _ c.min.ensures c.if-starts_with.ensures.value
