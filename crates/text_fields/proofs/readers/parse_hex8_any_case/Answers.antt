use Rattle.std.proofs.Common.{rules, ◌≢◌, length, ◌∙◌, sym}
use Rattle.std.proofs.lemmas.List.{length-map}
use Rattle.std.specs.Char.{to_ascii_uppercase}
use Rattle.std.specs.Str.{str_to_ascii_uppercase}
use Rattle.text_fields.proofs.HexFacts.{no_hex8}
use Rattle.text_fields.proofs.readers.parse_hex8_any_case.Goals as goal

pub returns-then-text-ne8 : goal.returns-then-text-ne8
returns-then-text-ne8 c =
    let other : length c.args.text.now ≢ 8 = search rules in
    λ n small. no_hex8 n (str_to_ascii_uppercase c.args.text.now) (λ e. other (sym (length-map c.args.text.now to_ascii_uppercase) ∙ e))
