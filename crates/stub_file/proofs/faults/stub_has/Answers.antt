use Rattle.std.proofs.Common.{◌∙◌, sym}
use Rattle.toml.specs.View.{view}
use Rattle.stub_file.proofs.Lists.{list_any-map}
use Rattle.stub_file.specs.Faults.{stub_has, write_has}
use Rattle.stub_file.proofs.faults.stub_has.Goals as goal

pub returns-else-table_has : goal.returns-else-table_has
unfolding stub_has
returns-else-table_has c =
    rw (← c.reply_of-reply.ensures, ← c.args_of-args.ensures, ← c.if-table_has.ensures, ← c.items_at.ensures)
    (c.some_write_has.ensures ∙ sym (list_any-map (write_has c.args_of-args.result c.args.fault) view c.items_at.result.now))
