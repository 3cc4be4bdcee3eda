-- With room for one more the sort is the innermost of them; with none there is no ninth.
use native.Mathlib.Omega.{arith}
use mathlib.Core.Path.{◌≡◌}
use borrow.Author.Tests.{lt-ltb, le-ltb}
use lib.ListN.{length}
use Rattle.procap.proofs.Indices.{mapped}
use Rattle.bl.specs.Formulas.{most_binders}
use Rattle.formula.proofs.SortsAround.{sorts_length, sorts_more}
use Rattle.formula.proofs.binders.Binders.with.Goals as goal

pub returns-then-count-ge-MOST_BINDERS : goal.returns-then-count-ge-MOST_BINDERS
returns-then-count-ge-MOST_BINDERS c =
    rw (← c.self.view_is, sorts_length c.self.inside.sorts c.self.inside.count, le-ltb _ most_binders c.if-count-ge-MOST_BINDERS.true)

pub returns : goal.returns
returns c =
    let full : length c.self.inside.sorts ≡ most_binders = search mapped in
    rw (
      ← c.self.view_is,
      sorts_length c.self.inside.sorts c.self.inside.count,
      lt-ltb _ most_binders c.if-count-ge-MOST_BINDERS.false,
      sorts_more c.self.inside.sorts c.self.inside.count c.args.sort (omega (arith, full)),
    )
