-- The strengths that are found in the numbers are lent on; the list is taken from the numbers, and put back into them after the walk.
use Rattle.judging.proofs.ByNumbers.{sound_list, led_in_numbers}
use Rattle.walk.proofs.ByNumbers.{around_found}
use Rattle.walk.proofs.numbers.check.Goals as goal

pub returns-clause-walks : goal.returns-clause-walks
returns-clause-walks c =
    λ π Γ N e s around reads told G m.
    let taken = c.of_numbers-list.ensures in
    let put = c.put_in.ensures in
    let strong = c.of_numbers-found.ensures.taken π.pairs around.policy.strong _ c.as_ref.ensures.value in
    let passed = c.check-checked.ensures.walks π Γ N e (sound_list _ _ _ taken s) (around_found _ _ _ _ _ _ _ strong around) reads told G m in
    record {
      gives = led_in_numbers _ _ _ taken s _ _ _ _ _ _ put.reads put.leaves c.count.ensures.counts passed.gives;
      ends = passed.ends;
    }
