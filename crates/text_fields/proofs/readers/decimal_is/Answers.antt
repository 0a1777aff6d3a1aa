use Rattle.std.proofs.Common.{rules, ◌<◌, ◌^◌, sym, refl}
use Rattle.text_fields.proofs.DecimalFacts.{no_decimal_number, value_is, value_is_not}
use Rattle.text_fields.proofs.readers.decimal_is.Goals as goal

pub returns-then-not-is_decimal : goal.returns-then-not-is_decimal
returns-then-not-is_decimal c = rw (no_decimal_number c.args.text.now (sym c.if-not-is_decimal.ensures)) refl

pub returns-in-Some : goal.returns-in-Some
returns-in-Some c = value_is c.args.text.now c.in-Some.m c.args.n (sym c.if-not-is_decimal.ensures) c.in-Some.ensures

pub returns-in-None : goal.returns-in-None
returns-in-None c = let small : c.args.n < 2 ^ 64 = search rules in value_is_not c.args.text.now c.args.n (sym c.if-not-is_decimal.ensures) small c.in-None.ensures
