-- The names have both sides of all pairs, and the strengths are those of the pairs taken, the last of which was taken first.
use Rattle.std.proofs.lemmas.Iterator.Consumers.{YieldsList-turn, YieldsList-end}
use Rattle.std.proofs.lemmas.Iterator.Adapters.{YieldsList-from_rev_slice}
use Rattle.strength.proofs.PairsTaken.{taken_more, all_taken, turned_in, still_stands}
use Rattle.strength.proofs.table.Strengths.take_pairs.Goals as goal

pub take_pair-requires : goal.take_pair-requires
take_pair-requires c =
    let loop = c.loop-pair in
    let turn = YieldsList-turn (YieldsList-from_rev_slice c.args.pairs.now cc) loop.yielded _ loop.yielded_by _ _ c.in-Some.pair c.in-Some.is c.next.ensures.steps in
    loop.invariant.0 _ (turned_in _ _ _ turn.0 turn.1)

pub loop-pair-preserved : goal.loop-pair-preserved
loop-pair-preserved c =
    let inv = c.loop-pair.invariant in
    let more = c.take_pair.ensures in
    (λ n h. still_stands n _ _ _ more (inv.0 n h), λ none. rw (taken_more c.loop-pair.yielded c.in-Some.pair) (more.grown _ (inv.1 none)))

pub returns : goal.returns
returns c none =
    let loop = c.loop-pair in
    let end = YieldsList-end (YieldsList-from_rev_slice c.args.pairs.now cc) loop.yielded _ loop.yielded_by _ _ c.in-None.is c.next.ensures.steps in
    rw (all_taken loop.yielded c.args.pairs.now end.0) at (loop.invariant.1 none)
