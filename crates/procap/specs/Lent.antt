-- Lent bytes or numbers, as a contract names them: what stands there when the call begins, and what is left there.
use Rattle.std.specs.Prelude.{ℕ, List}
use Rattle.std.specs.Borrow.{Bor, MutBor}
use denote.Triple.Both.{Both}

-- A slice that is lent to a call.
abbrev pub Lent : Type 0
Lent = Both (Bor (List ℕ)) (Bor (List ℕ))

-- A slice that is lent to a call to be written.
abbrev pub LentToWrite : Type 0
LentToWrite = Both (MutBor (List ℕ)) (MutBor (List ℕ))
