-- Of all groups some are read: their records stand in the array and their formulas in the buffer, and the rest is still to be read.
use Prim.Native.Nat.{ℕ, ◌+◌, ◌-◌, ◌≤◌, ◌<◌}
use mathlib.Core.Path.{◌≡◌, refl, sym, ap, ap₂, ◌∙◌}
use mathlib.Core.List.{List, [], ◌∷◌, ◌++◌}
use native.Mathlib.Omega.{arith}
use lib.ListN.{length, take, set, length-append}
use Rattle.procap.specs.Lists.{pad}
use Rattle.std.specs.Prelude.{Err}
use Rattle.procap.specs.declared.answer.Answer.{Answer}
use Rattle.bl.specs.Certificates.{most_certificates}
use Rattle.bl.specs.declared.Certificate.{Certificate}
use Rattle.verifier.specs.Verifying.{no_record}
use Rattle.cases.specs.Case.{Group, group, groups, buffer_of, records_from}
use Rattle.cases.specs.Found.{ReadSoFar, WentOn, GroupPut, GroupsPut}
use Rattle.cases.proofs.GroupLaws.{led_by, led_by_nothing, led_more, led_breaks, led_all, groups_one, groups_break, groups_end}
use Rattle.cases.proofs.Records.{buffer_more, record_stored, records_kept}

-- So many groups are read.
pub record GroupsSoFar (old : ReadSoFar) (count : ℕ) (now : ReadSoFar) (records : List Certificate) (i : ℕ) : Type 0 where
  pub found : List Group
  pub counted : length found ≡ i
  pub few : i ≤ count
  pub reads : groups old.input count old.line old.at ≡ led_by found (groups old.input (count - i) now.line now.at)
  pub same : now.input ≡ old.input
  pub kept : records ≡ pad most_certificates no_record (records_from 0 found)
  pub put : now.bytes ≡ buffer_of found

module _ {old : ReadSoFar} {count : ℕ} where
  -- None yet.
  pub no_groups_yet : (records : List Certificate) → old.bytes ≡ [] → records ≡ pad most_certificates no_record []
      → GroupsSoFar old count old records 0
  unfolding buffer_of records_from
  no_groups_yet records none e = record {
    found = [];
    counted = refl;
    few = omega arith;
    reads = led_by_nothing _ ∙ ap (λ k. led_by [] (groups old.input k old.line old.at)) (omega arith);
    same = refl;
    kept = e;
    put = none;
  }

  module _ {now : ReadSoFar} {records : List Certificate} {i : ℕ} (h : GroupsSoFar old count now records i) where
    module _ (l : i < count) where
      -- Where the next group breaks the form, so do all.
      pub next_breaks : (answer : Answer) → group now.input now.line now.at ≡ Err answer → groups old.input count old.line old.at ≡ Err answer
      next_breaks answer e =
          led_breaks h.found (groups old.input (count - i) now.line now.at) h.reads answer
          (groups_break old.input (count - i) now.line now.at (count - (i + 1)) (omega arith) answer (rw h.same at e))

      -- One group more.
      pub one_group_more : {new : ReadSoFar} {r : Certificate} → count ≤ most_certificates
          → WentOn (group now.input now.line now.at) now new (GroupPut now new) r → GroupsSoFar old count new (set records i r) (i + 1)
      one_group_more {new} {r} most g = record {
        found = h.found ++ (g.found ∷ []);
        counted = simp length-append (omega (arith, h.counted));
        few = omega arith;
        reads =
            led_more h.found (groups old.input (count - i) now.line now.at) h.reads g.found _
            (groups_one old.input (count - i) now.line now.at (count - (i + 1)) (omega arith) g.found new.line new.at (rw h.same at g.reads));
        same = g.same ∙ h.same;
        kept =
            ap₂ (λ (rs : List Certificate) (c : Certificate). set rs i c) h.kept g.is_of.0
            ∙ record_stored most_certificates h.found g.found i (length now.bytes) h.counted (ap length h.put) (omega arith);
        put = g.is_of.1 ∙ ap (λ bs. bs ++ g.found.says) h.put ∙ sym (buffer_more h.found g.found);
      }

    -- All of them.
    pub all_groups_read : count ≤ i → WentOn (groups old.input count old.line old.at) old now (GroupsPut now) (take count records)
    all_groups_read l = record {
      found = h.found;
      reads =
          led_all h.found (groups old.input (count - i) now.line now.at) h.reads now.line now.at
          (groups_end old.input (count - i) now.line now.at (omega arith));
      same = h.same;
      is_of = (records_kept most_certificates count records h.found (h.counted ∙ all) h.kept, h.put);
    }
      where
        all : i ≡ count
        all = omega (arith, h.few)
