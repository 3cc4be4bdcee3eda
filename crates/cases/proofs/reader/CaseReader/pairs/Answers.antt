-- The loop has put the bytes of the pairs passed. Two places of the input are passed for each byte, so that there is room for the next one.
use mathlib.Core.Path.{refl}
use native.Mathlib.Omega.{arith}
use lib.ListN.{length-append}
use Rattle.cases.proofs.Pairs.{no_pairs, pair_more, pairs_all}
use Rattle.cases.proofs.reader.CaseReader.pairs.Goals as goal

pub loop-byte-init : goal.loop-byte-init
loop-byte-init c =
    let kept = c.self.invariant in
    record { same_input = refl; same_line = refl; short = kept.0; inside = kept.1; counted = kept.2; behind = kept.3; read = no_pairs _ _ _ }

pub loop-byte-preserved : goal.loop-byte-preserved
loop-byte-preserved c =
    let now = c.loop-byte.invariant in
    let pair = c.in-Some.ensures in
    rw (c.push.ensures.room (omega (arith, pair.inside))) (record {
      same_input = now.same_input;
      same_line = now.same_line;
      short = now.short;
      inside = omega (arith, pair.inside);
      counted = omega arith;
      behind = simp length-append (omega arith);
      read = pair_more _ _ _ _ _ now.read _ (rw now.same_input at pair);
    })

pub returns-clause-reads : goal.returns-clause-reads
returns-clause-reads c =
    let now = c.loop-byte.invariant in
    rw (← c.self.view_is) (pairs_all _ _ _ _ _ now.read (rw now.same_input at c.in_default.ensures))
