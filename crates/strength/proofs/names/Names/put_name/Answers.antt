-- Rising names rise with one more among them, and there is room for it.
use native.Mathlib.Omega.{arith}
use borrow.Author.Rules.{rules}
use Rattle.rising.proofs.RisingLaws.{insert_rising}
use Rattle.strength.proofs.names.Names.put_name.Goals as goal

pub invariant_of-self : goal.invariant_of-self
invariant_of-self c =
    let list = c.args.self.now in
    let put = c.put-self.ensures in
    record { few = omega (arith, put.within); rising = rw (put.puts (search rules) list.rising).0 (insert_rising _ _ list.rising) }
