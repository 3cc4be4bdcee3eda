-- Where the first numbers rise, those below the number stand before the others, so the library's point is the place.
use mathlib.Core.Path.{◌≡◌}
use native.Mathlib.Omega.{arith}
use borrow.Author.Rules.{rules}
use lib.Dec.{ltb}
use lib.ListN.{take}
use Rattle.std.proofs.lemmas.List.Sorted.{IsPartitionedBy-ltb, IsPartitionPoint-from_clause}
use Rattle.rising.specs.Rising.{Rising}
use Rattle.rising.proofs.Searching.{rising_sorted, parted_at}
use Rattle.rising.proofs.below.Goals as goal

pub returns-clause-below : goal.returns-clause-below
returns-clause-below c few rise =
    let number = c.args.number in
    let whole : c.min.result ≡ c.args.count = omega (arith, c.min.ensures, few) in
    let front_rises : Rising (take c.min.result c.args.numbers.now) = rw whole rise in
    let parted = IsPartitionedBy-ltb (λ k. k) _ number (rising_sorted _ front_rises) in
    let point = c.partition_point.ensures in
    rw (← whole)
    (parted_at _ number _ front_rises (IsPartitionPoint-from_clause (λ k. ltb k number) _ _ point.partitioned parted (λ a r f' k. search rules)) point.bound)
