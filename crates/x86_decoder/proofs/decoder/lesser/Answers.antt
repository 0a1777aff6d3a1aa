use Rattle.std.proofs.Common.{◌∙◌, sym}
use Rattle.x86_decoder.proofs.Modrm.{least_goes_on, least_skips}
use Rattle.x86_decoder.proofs.decoder.lesser.Goals as goal

pub returns-in-Some-clause-least : goal.returns-in-Some-clause-least
returns-in-Some-clause-least c = λ h.
    rw c.min.ensures (least_goes_on c.args.prefixes c.args.map c.args.code c.args.reg c.args.least c.row_size.result c.in-Some.row c.requires h (sym c.find_row.ensures ∙ c.in-Some.is) c.row_size.ensures.value)

pub returns-in-None-clause-least : goal.returns-in-None-clause-least
returns-in-None-clause-least c = λ h. least_skips c.args.prefixes c.args.map c.args.code c.args.reg c.args.least h (sym c.find_row.ensures ∙ c.in-None.is)
