use Rattle.std.proofs.Common.{rules, ◌≡◌, ◌==◌, get_or, true}
use Rattle.std.specs.Prelude.{not}
use Rattle.text_fields.proofs.DecimalFacts.{is_decimal_long}
use Rattle.text_fields.proofs.readers.is_decimal.Goals as goal

pub returns-then-first-ne48 : goal.returns-then-first-ne48
returns-then-first-ne48 c =
    let first : not (get_or c.args.text.now 0 0 == 48) ≡ true = search rules in
    rw (is_decimal_long c.args.text.now c.in-len1-up.len_at_least, first) c.are_digits.ensures
