use Rattle.std.proofs.Common.{◌≤◌, arith, unwrap_or}
use Rattle.toml.specs.View.{table_view}
use Rattle.stub_file.specs.Document.{natural_at}
use Rattle.stub_file.specs.declared.keys.Key.TheVariants as key
use Rattle.stub_file.proofs.Top.{align_fits, align_kept}
use Rattle.stub_file.proofs.read.read_parts.Goals as goal

pub align_at-align-requires : goal.align_at-align-requires
align_at-align-requires c =
    let fits : unwrap_or (natural_at key.StackAlign (table_view c.args.table.now)) 0 ≤ 4096 = align_fits (table_view c.args.table.now) c.requires in
    omega arith

pub new-requires-clause-align : goal.new-requires-clause-align
new-requires-clause-align c = rw c.align_at-align.ensures (align_kept (table_view c.args.table.now) c.requires)
