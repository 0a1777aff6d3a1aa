use Rattle.transfer_functions.proofs.values.offset_value.Goals as goal

pub returns-clause-holds : goal.returns-clause-holds
returns-clause-holds g c =
    let blocks = c.args.s.now.parts.blocks in
    c.above.ensures.holds blocks (c.above-sum.ensures.holds blocks c.base_value-base.ensures.holds c.index_value-index.ensures.holds) (c.number-disp.ensures.word blocks)
