use Rattle.bit_words.proofs.Signed.{code-sum}
use Rattle.bit_words.proofs.flags.signed_sum.Goals as goal

pub returns : goal.returns
returns c = code-sum c.args.x c.args.y c.args.carry _ _ _ c.from.ensures c.from-2.ensures c.from-3.ensures c.ranges.x c.ranges.y
