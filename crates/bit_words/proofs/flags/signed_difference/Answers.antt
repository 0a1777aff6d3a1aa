use Rattle.bit_words.proofs.Signed.{code-difference}
use Rattle.bit_words.proofs.flags.signed_difference.Goals as goal

pub returns : goal.returns
returns c = code-difference c.args.x c.args.y c.args.borrow _ _ _ c.from.ensures c.from-2.ensures c.from-3.ensures c.ranges.x c.ranges.y
