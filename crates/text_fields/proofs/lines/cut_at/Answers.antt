use Rattle.text_fields.proofs.LineFacts.{split_at_place, split_nowhere}
use Rattle.std.proofs.Common.{sym, ◌∙◌}
use Rattle.text_fields.proofs.lines.cut_at.Goals as goal

pub returns-in_err-at-clause-parts : goal.returns-in_err-at-clause-parts
returns-in_err-at-clause-parts c = rw c.from_residual.ensures (split_nowhere c.args.separator c.args.text.now (sym c.place_of.ensures ∙ c.in_err-at.was))

pub returns-clause-parts : goal.returns-clause-parts
returns-clause-parts c = split_at_place c.args.separator c.args.text.now c.in_ok-at.at (sym c.place_of.ensures ∙ c.in_ok-at.was)
