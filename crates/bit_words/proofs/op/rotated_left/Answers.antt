use Rattle.std.proofs.Common.{arith}
use Rattle.bit_words.specs.Width.{bits_of}
use Rattle.bit_words.proofs.Words.{code-rotated, rotated-lt, word-lt}
use Rattle.bit_words.proofs.op.rotated_left.Goals as goal

pub overflow_add-result : goal.overflow_add-result
overflow_add-result c =
    let e = code-rotated c.args.w c.args.x c.args.count _ _ _ c.bits.ensures c.from.ensures c.from-2.ensures c.requires.word c.requires.within in
    let h = word-lt c.args.w _ (rotated-lt (bits_of c.args.w) c.args.x c.args.count c.requires.word c.requires.within) in
    record { fits = omega arith }

pub overflow_cast-result-2 : goal.overflow_cast-result-2
overflow_cast-result-2 c =
    let e = code-rotated c.args.w c.args.x c.args.count _ _ _ c.bits.ensures c.from.ensures c.from-2.ensures c.requires.word c.requires.within in
    let h = word-lt c.args.w _ (rotated-lt (bits_of c.args.w) c.args.x c.args.count c.requires.word c.requires.within) in
    record { fits = omega arith }

pub returns : goal.returns
returns c = code-rotated c.args.w c.args.x c.args.count _ _ _ c.bits.ensures c.from.ensures c.from-2.ensures c.requires.word c.requires.within
