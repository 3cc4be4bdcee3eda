-- Those from the place on are copied up by one, and then the number is stored there.
use Rattle.rising.proofs.Moving.{put_behind}
use Rattle.rising.proofs.put_at.Goals as goal

pub returns : goal.returns
returns c = rw c.copy_within.ensures.after (put_behind c.args.numbers.now _ _ _ c.requires.0 c.requires.1)
