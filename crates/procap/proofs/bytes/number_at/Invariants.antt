-- The loop has read the number of the bytes passed, which is below 256 to their count.
use Rattle.std.proofs.Common.{◌≡◌, ◌^◌, ◌<◌, take}
use Rattle.procap.specs.Bytes.{big_endian}
use Rattle.procap.proofs.bytes.number_at.Given as goal

abbrev pub invariant-loop-byte : goal.invariant-loop-byte
invariant-loop-byte g l = (l.number < 256 ^ l.byte-index) × (l.number ≡ big_endian 0 (take l.byte-index l.byte-items))
