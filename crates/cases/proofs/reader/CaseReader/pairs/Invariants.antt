-- The loop has put the bytes of the pairs passed. Two places of the input are passed for each byte, so that there is room for the next one.
use Prim.Native.Nat.{◌+◌, ◌-◌, ◌*◌, ◌≤◌}
use mathlib.Core.Path.{◌≡◌}
use lib.ListN.{length}
use Rattle.cases.specs.Case.{most_input}
use Rattle.cases.proofs.Pairs.{PairsSoFar}
use Rattle.cases.proofs.reader.CaseReader.pairs.Given as goal

abbrev pub invariant-loop-byte : goal.invariant-loop-byte
invariant-loop-byte l =
    let now = l.self-inside in
    let first = l.initial.self-inside in
    record {
      same_input : now.input ≡ first.input;
      same_line : now.line ≡ first.line;
      short : length now.input.now ≤ most_input;
      inside : now.at ≤ length now.input.now;
      counted : now.line ≤ now.at + 4;
      behind : 2 * length now.bytes ≤ now.at;
      read : PairsSoFar first.input.now first.at first.bytes now.at now.bytes;
    }

abbrev pub decreases-loop-byte : goal.decreases-loop-byte
decreases-loop-byte l = length l.self-inside.input.now - l.self-inside.at
