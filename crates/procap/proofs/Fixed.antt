-- What is promised of a call fixes what it hands back, for every input. Most promises are equations; these are the others: a flag that
-- tells a fact, and a fact that is handed back for what a reader finds.
use Rattle.std.proofs.Common.{◌≡◌, ℕ, Bool, true, false, refl, sym, ap, ◌∙◌, Option, Some, None, option_map}
use Rattle.procap.specs.Tells.{Tells}
use Rattle.procap.specs.Facts.{Spelled, fact_of}
use Rattle.procap.specs.Reading.{FactReads}
use Rattle.procap.specs.declared.fact.Fact.{Fact}

-- Two flags that tell one fact are the same.
pub flag_fixed : (P : Type 0) (b c : Bool) → Tells b P → Tells c P → b ≡ c
flag_fixed P true true h k = refl
flag_fixed P true false h k = absurd (k h)
flag_fixed P false true h k = absurd (h k)
flag_fixed P false false h k = refl

-- The fact, with zeros past its terms, and the place.
abbrev pub as_fact : Option (Spelled × ℕ) → Option (Fact × ℕ)
as_fact o = option_map (λ x. (fact_of x.0, x.1)) o

pub fact_fixed : (o : Option (Spelled × ℕ)) (r : Option (Fact × ℕ)) → FactReads o r → r ≡ as_fact o
fact_fixed o None h = sym (ap as_fact h)
fact_fixed o (Some x) h = (λ i. Some (h.1 i, x.1)) ∙ sym (ap as_fact h.0)
