-- As many are filled as there are, but no more than the array has: so these are the first of all.
use Prim.Native.Nat.{◌≤◌}
use mathlib.Core.Path.{◌≡◌, ◌∙◌}
use lib.ListN.{length, replicate, length-replicate}
use native.Mathlib.Omega.{arith}
use Rattle.std.specs.Prelude.{min}
use Rattle.std.specs.Int.{div_ceil}
use Rattle.from_c.proofs.RowLaws.{put_first, first_lent}
use Rattle.from_c.proofs.row.front_of.Goals as goal

pub returns : goal.returns
returns g c =
    let count : c.min-count.result ≡ min (div_ceil (length c.args.bytes.now) g.T.InARow.BYTES) g.row.N = cc in
    let few : c.min-count.result ≤ length (replicate g.row.N c.args.none) = rw length-replicate (omega (arith, count)) in
    rw (c.of.ensures) (put_first _ _ _ _ _ _ _ few c.put_in_a_row.ensures ∙ first_lent _ _ _ _ _ count)
