use Rattle.std.proofs.Common.{arith, ◌∙◌, sym, ◌*◌, ◌^◌}
use Rattle.std.proofs.lemmas.Bool.{ltb-true}
use Rattle.interval_values.proofs.Shifts.{shifted_left-is}
use Rattle.interval_values.proofs.numbers.shifted_left.Goals as goal

pub returns-then-fits_shifted : goal.returns-then-fits_shifted
returns-then-fits_shifted c = shifted_left-is c.args.m c.args.c _ (omega arith) (omega arith) (ltb-true (c.args.m.high * 2 ^ c.args.c) (2 ^ 32) (sym c.fits_shifted.ensures ∙ c.if-fits_shifted.true)) c.span.ensures
