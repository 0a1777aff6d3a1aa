use Rattle.transfer_functions.proofs.site.Site.word_below.Goals as goal

pub returns-clause-holds : goal.returns-clause-holds
returns-clause-holds g c =
    let blocks = c.args.s.now.parts.blocks in
    c.below.ensures.holds blocks c.stack_pointer.ensures.holds (c.number-size.ensures.word blocks)
