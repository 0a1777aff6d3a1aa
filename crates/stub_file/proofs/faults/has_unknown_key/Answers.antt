use Rattle.std.proofs.Common.{◌∙◌, not, sym}
use Rattle.stub_file.proofs.Lists.{any_key}
use Rattle.stub_file.specs.Faults.{has_rule, has_unknown_key}
use Rattle.stub_file.proofs.faults.has_unknown_key.Goals as goal

pub returns : goal.returns
unfolding has_unknown_key
returns c =
    c.has_name_without_rule.ensures ∙ sym (any_key (λ name. not (has_rule c.args.rules.now name)) c.args.table.now.entries)
