use Rattle.transfer_functions.proofs.flow.one_less.Goals as goal

pub returns-clause-holds : goal.returns-clause-holds
returns-clause-holds g c =
    let blocks = c.args.s.now.parts.blocks in
    c.below.ensures.holds blocks c.register_value.ensures.holds (c.number-one.ensures.word blocks)
