use Rattle.transfer_functions.proofs.site.Site.divide_known.Goals as goal

pub divided-requires-clause-quotient : goal.divided-requires-clause-quotient
divided-requires-clause-quotient g c κs within = c.number-first.ensures.word c.args.p.state.parts.blocks

pub divided-requires-clause-remainder : goal.divided-requires-clause-remainder
divided-requires-clause-remainder g c κs within = c.number-second.ensures.word c.args.p.state.parts.blocks
