-- When the door opens.
use Rattle.std.specs.Prelude.{ℕ, ◌≤◌, ◌≡◌, List, Some}
use Rattle.procap.specs.Times.{latest}
use Rattle.procap.specs.Facts.{Spelled}
use Rattle.procap.specs.Procaps.{Satisfied}
use Rattle.procap.specs.Writable.{Writable}
use Rattle.procap.specs.States.{stated}
use Rattle.procap.specs.declared.procap.Request.{Request}
use Rattle.procap.specs.declared.procap.Procap.{Procap}

-- The procap is one that can be written, the clock can show the moment, the state is well formed, the request is the procap's own, and
-- the procap is satisfied.
pub record Opens (p : Procap) (r : Request) (m : ℕ) (state : List ℕ) : Type 0 where
  pub can_be_written : Writable p
  pub moment_in_range : m ≤ latest
  pub facts : List Spelled
  pub state_reads : stated state ≡ Some facts
  pub own_request : r ≡ p.request
  pub satisfied : Satisfied p m facts
