use Rattle.std.proofs.Common.{arith}
use Rattle.std.proofs.lemmas.Nat.{shl_whole}
use Rattle.interval_values.proofs.numbers.fits_shifted.Goals as goal

pub returns : goal.returns
returns c = let e = shl_whole c.args.n 32 c.args.c 64 (omega arith) (omega arith) in cc
