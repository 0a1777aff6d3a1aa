use Rattle.std.proofs.Common.{rules, lit<, Fits, w8}
use Rattle.bit_words.proofs.FlagLaws.{flags-same}
use Rattle.bit_words.proofs.FlagSets.{has-replaced}
use Rattle.bit_words.proofs.flags.Flags.replaced.Goals as goal

pub returns : goal.returns
returns c =
    let s = c.args.self.0 in
    let w = c.args.which.0 in
    let o = c.args.by.0 in
    let f : Fits w8 w = search rules in
    flags-same _ _
    (has-replaced 0 s w o (lit< tt) f.fits)
    (has-replaced 1 s w o (lit< tt) f.fits)
    (has-replaced 2 s w o (lit< tt) f.fits)
    (has-replaced 3 s w o (lit< tt) f.fits)
    (has-replaced 4 s w o (lit< tt) f.fits)
    (has-replaced 5 s w o (lit< tt) f.fits)
    (has-replaced 6 s w o (lit< tt) f.fits)
