-- Where a case was found, what is lent to verify is what the case says.
use Prim.Native.Nat.{ℕ, ◌≤◌}
use mathlib.Core.Path.{◌≡◌, sym, ap, ◌∙◌}
use mathlib.Core.List.{List}
use native.Mathlib.Omega.{arith}
use lib.ListN.{length, take, drop, length-append}
use lib.Seq.{take_at, drop_at}
use Rattle.procap.specs.Outcome.{Outcome}
use Rattle.cases.specs.Case.{Case, buffer_of}
use Rattle.cases.specs.Found.{CaseFound, verified_in}
use Rattle.cases.specs.declared.case.CaseRead.{CaseRead}
use Rattle.cases.proofs.Printables.{verified_of}

module _ (o : Outcome (Case × ℕ × ℕ)) (r : CaseRead) (bytes : List ℕ) (f : CaseFound o r bytes) where
  -- The formulas and the proof are found again.
  its_buffer : take r.split bytes ≡ buffer_of f.found.groups
  its_buffer = ap (take r.split) f.its_bytes ∙ take_at (buffer_of f.found.groups) f.found.proof r.split (sym f.its_split)

  its_proof : drop r.split bytes ≡ f.found.proof
  its_proof = ap (drop r.split) f.its_bytes ∙ drop_at (buffer_of f.found.groups) f.found.proof r.split (sym f.its_split)

  -- What verify comes to for what was read is what it comes to for the case.
  pub verified_case : verified_in bytes r ≡ verified_of f.found
  verified_case = rw (f.its_request, f.its_records, its_buffer, its_proof)

  -- The formulas end within the bytes.
  pub split_inside : r.split ≤ length bytes
  split_inside = omega (arith, f.its_split, ap length f.its_bytes, length-append (buffer_of f.found.groups) f.found.proof)
