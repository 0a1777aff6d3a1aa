use Rattle.transfer_functions.proofs.tests.value_named.Goals as goal

pub returns-in_ok-from_str_radix-in-Some : goal.returns-in_ok-from_str_radix-in-Some
returns-in_ok-from_str_radix-in-Some g c =
    let blocks = c.args.s.now.parts.blocks in
    c.below.ensures.holds blocks c.in_ok-v-in-Some.ensures (c.number-n.ensures.word blocks)

pub returns-in_ok-from_str_radix-in-Some-split_once : goal.returns-in_ok-from_str_radix-in-Some-split_once
returns-in_ok-from_str_radix-in-Some-split_once g c =
    let blocks = c.args.s.now.parts.blocks in
    c.above.ensures.holds blocks c.in_ok-v-in-Some-split_once.ensures (c.number-n-in-Some-split_once.ensures.word blocks)
