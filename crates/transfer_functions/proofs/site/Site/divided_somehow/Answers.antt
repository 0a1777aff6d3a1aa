use Rattle.bit_words.specs.declared.width.Width.TheVariants.{B32}
use Rattle.transfer_functions.proofs.site.Site.divided_somehow.Goals as goal

pub divided-requires-clause-quotient : goal.divided-requires-clause-quotient
divided-requires-clause-quotient g c κs within = c.anything-unknown.ensures.holds c.args.p.state.parts.blocks B32

pub divided-requires-clause-remainder : goal.divided-requires-clause-remainder
divided-requires-clause-remainder g c κs within = c.anything-unknown.ensures.holds c.args.p.state.parts.blocks B32
