-- Room, by a list in numbers: as many facts stand in the numbers as are counted, so there is room by the count where there is room by the facts.
use Prim.Native.Nat.{ℕ}
use native.Mathlib.Omega.{arith}
use mathlib.Core.List.{List}
use Rattle.bl.specs.Questions.{Walk, ◌>>=◌}
use Rattle.bl.proofs.ListGrows.{asks_first}
use Rattle.ledger.specs.Books as books
use Rattle.ledger.specs.Numbers.{facts_listed, Book, HasRoom, Gives}
use Rattle.ledger.proofs.Giving.{room_then}
use Rattle.ledger.proofs.ListNumbers.{listed_counted, gives_facts}

-- Room for both lines is room for the first,
pub room_first_in_numbers : {A B : Type 0} (b : Book) (w : Walk A) (g : A → Walk B) → HasRoom b (w >>= g) → HasRoom b w
room_first_in_numbers b w g room going = omega (arith, room going, asks_first w g)

-- and, after the first, for the second.
pub room_then_in_numbers : {A B : Type 0} (state : List ℕ) (b m : Book) (w : Walk A) (a : A) (g : A → Walk B) → Gives state b w m a → HasRoom b (w >>= g)
    → HasRoom m (g a)
room_then_in_numbers state b m w a g h room going =
    let before = listed_counted b.list b.counted.count in
    let after = listed_counted m.list m.counted.count in
    let then =
    room_then state (books.book b.counted.ledger (facts_listed b.list b.counted.count)) (books.book m.counted.ledger (facts_listed m.list m.counted.count)) w a g
    (gives_facts state b.list m.list b.counted m.counted w a h)
    (λ goes. omega (arith, room goes, before))
    going in
    omega (arith, then, after)
