use Rattle.std.proofs.Common.{rules, ◌≡◌, None}
use Rattle.std.specs.Str.{IsUtf8}
use Rattle.text_fields.proofs.DecimalFacts.{numeral_is_text}
use Rattle.text_fields.proofs.readers.decimal_value.Goals as goal

pub returns-in_err-ok : goal.returns-in_err-ok
returns-in_err-ok c =
    let none : c.from_residual.result ≡ None = search rules in
    let no_text : IsUtf8 c.args.text.now → ⊥ = search rules in
    rw none (λ is. no_text (numeral_is_text c.args.text.now is.0))
