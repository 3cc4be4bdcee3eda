-- The judgement beside the ledger is the front of the bytes on [ctime,ctime].
use Rattle.judging.proofs.judge.nothing.Goals as goal

pub returns : goal.returns
returns c = rw c.front_on_ctime.ensures
