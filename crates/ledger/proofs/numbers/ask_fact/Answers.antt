-- Where the list has become longer, the fact stands at its end, and is put after the numbers of the others; else the numbers stay.
use Rattle.std.proofs.Common.{arith, ◌≡◌, ◌<◌, length, subst}
use Rattle.ledger.specs.Numbers.{list_numbers, fact_in}
use Rattle.ledger.proofs.NumbersAsked.{old_sound, asked_longer, asked_stayed, leads_longer, leads_stayed}
use Rattle.ledger.proofs.numbers.ask_fact.Goals as goal
use Rattle.ledger.proofs.numbers.ask_fact.Goals.{else-facts-eq-LIST_NUMBERS-via-then-facts-eq-LIST_NUMBERS+else-count, else-facts-eq-LIST_NUMBERS-via-else-facts-eq-LIST_NUMBERS}

pub returns-then-count-clause-leaves : goal.returns-then-count-clause-leaves
returns-then-count-clause-leaves c =
    let longer : c.args.counted.count < length c.ask_fact-asked.new.facts = omega arith in
    rw c.put_fact.ensures.stored
    (asked_longer c.args.facts.now c.args.counted c.args.fact _ c.of_numbers-list.ensures _ _ _ _ c.ask_fact-asked.ensures.leaves (c.if-facts-eq-LIST_NUMBERS.true, longer))

pub returns-then-count-clause-leads : goal.returns-then-count-clause-leads
returns-then-count-clause-leads c = λ s form few.
    let longer : c.args.counted.count < length c.ask_fact-asked.new.facts = omega arith in
    let stands = subst (λ l. fact_in l c.args.counted.count ≡ c.args.fact) c.put_fact.ensures.stored c.put_fact.ensures.put in
    rw c.put_fact.ensures.stored
    (leads_longer c.args.facts.now c.args.counted c.args.fact _ c.of_numbers-list.ensures _ _ _ _ c.ask_fact-asked.ensures.leaves s
    (c.ask_fact-asked.ensures.leads (old_sound c.args.facts.now c.args.counted c.args.fact _ c.of_numbers-list.ensures s) form few)
    (c.if-facts-eq-LIST_NUMBERS.true, longer)
    stands)

pub returns-clause-leaves : goal.returns-clause-leaves
returns-clause-leaves c =
    let as_it_was : (length c.args.facts.now ≡ list_numbers) × (c.args.counted.count < length c.ask_fact-asked.new.facts) → ⊥ =
    elim c.else-facts-eq-LIST_NUMBERS.branch [
      | else-facts-eq-LIST_NUMBERS-via-then-facts-eq-LIST_NUMBERS+else-count w ↦ λ h. let l = h.1 in omega (arith, w.count.ensures.counts, w.if-count.false)
      | else-facts-eq-LIST_NUMBERS-via-else-facts-eq-LIST_NUMBERS w ↦ λ h. w.if-facts-eq-LIST_NUMBERS.false h.0
    ] in
    asked_stayed c.args.facts.now c.args.counted c.args.fact _ c.of_numbers-list.ensures _ _ _ _ c.ask_fact-asked.ensures.leaves as_it_was

pub returns-clause-leads : goal.returns-clause-leads
returns-clause-leads c = λ s form few.
    let as_it_was : (length c.args.facts.now ≡ list_numbers) × (c.args.counted.count < length c.ask_fact-asked.new.facts) → ⊥ =
    elim c.else-facts-eq-LIST_NUMBERS.branch [
      | else-facts-eq-LIST_NUMBERS-via-then-facts-eq-LIST_NUMBERS+else-count w ↦ λ h. let l = h.1 in omega (arith, w.count.ensures.counts, w.if-count.false)
      | else-facts-eq-LIST_NUMBERS-via-else-facts-eq-LIST_NUMBERS w ↦ λ h. w.if-facts-eq-LIST_NUMBERS.false h.0
    ] in
    leads_stayed c.args.facts.now c.args.counted c.args.fact _ c.of_numbers-list.ensures _ _ _ _ c.ask_fact-asked.ensures.leaves s
    (c.ask_fact-asked.ensures.leads (old_sound c.args.facts.now c.args.counted c.args.fact _ c.of_numbers-list.ensures s) form few)
    as_it_was
