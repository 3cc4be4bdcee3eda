-- A procap that verify issues for a case that was read can be written.
use Prim.Native.Nat.{ℕ}
use mathlib.Core.Path.{◌≡◌}
use mathlib.Core.List.{List, []}
use Rattle.procap.specs.Writable.{Writable}
use Rattle.std.specs.Prelude.{Ok}
use Rattle.procap.specs.Outcome.{Outcome}
use Rattle.procap.specs.declared.procap.Procap.{Procap}
use Rattle.procap.proofs.Granted.{went_on}
use Rattle.bl.specs.Calls.{verified}
use Rattle.bl.proofs.Theorems.{issued_can_be_written}
use Rattle.cases.specs.Case.{Case, case_in, buffer_of, records_from}
use Rattle.cases.specs.Calls.{checked}
use Rattle.cases.proofs.CasesInForm.{case_in_form}

-- What verify comes to for what a case says.
abbrev pub verified_of : Case → Outcome Procap
verified_of c = verified c.request (records_from 0 c.groups) (buffer_of c.groups) [] c.proof

-- A procap that verify issues for a case that was read can be written.
pub issued_is_writable : (input : List ℕ) (c : Case) → case_in input ≡ Ok c → (p : Procap) → verified_of c ≡ Ok p → Writable p
issued_is_writable input c reads =
    let (names, in_bytes, proof_in_bytes) = case_in_form input c reads in
    issued_can_be_written c.request (records_from 0 c.groups) (buffer_of c.groups) [] c.proof names in_bytes proof_in_bytes

-- So is one that an input comes to.
pub checked_is_writable : (input : List ℕ) (p : Procap) → checked input ≡ Ok p → Writable p
unfolding checked
checked_is_writable input p e = went_on _ _ _ e λ c reads issues. issued_is_writable input c reads p issues
