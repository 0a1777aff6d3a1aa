use Rattle.std.proofs.Common.{sym, refl}
use Rattle.text_fields.proofs.DecimalFacts.{no_decimal_number, value_below, not_decimal, decimal_plain, reads_decimal}
use Rattle.text_fields.proofs.readers.parse_decimal.Goals as goal

pub returns-then-not-is_decimal-clause-value : goal.returns-then-not-is_decimal-clause-value
returns-then-not-is_decimal-clause-value c = rw (no_decimal_number c.args.text.now (sym c.if-not-is_decimal.ensures)) refl

pub returns-then-not-is_decimal-clause-digits : goal.returns-then-not-is_decimal-clause-digits
returns-then-not-is_decimal-clause-digits c = λ n small.
    ((λ e. let never : ⊥ = cc in absurd never), (λ same. absurd (not_decimal c.args.text.now n small (sym c.if-not-is_decimal.ensures) same)))

pub returns-clause-value : goal.returns-clause-value
returns-clause-value c = value_below c.args.text.now c.decimal_value.result (sym c.if-not-is_decimal.ensures) c.decimal_value.ensures

pub returns-clause-digits : goal.returns-clause-digits
returns-clause-digits c = λ n small. reads_decimal c.args.text.now n c.decimal_value.result small (decimal_plain c.args.text.now (sym c.if-not-is_decimal.ensures)).short c.decimal_value.ensures
