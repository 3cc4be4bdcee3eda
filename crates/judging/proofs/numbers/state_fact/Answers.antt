-- The list is taken from the numbers, asked, and put back into them.
use Rattle.judging.proofs.ByNumbers.{sound_list, led_in_numbers}
use Rattle.judging.proofs.numbers.state_fact.Goals as goal

pub returns : goal.returns
returns c =
    λ G s m.
    let taken = c.of_numbers-list.ensures in
    let put = c.put_in.ensures in
    led_in_numbers _ _ _ taken s _ _ _ _ _ _ put.reads put.leaves c.count.ensures.counts (c.state_fact-ledger.ensures G (sound_list _ _ _ taken s) m)
