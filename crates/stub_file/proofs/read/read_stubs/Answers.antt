use Rattle.std.proofs.lemmas.Result.{IfErr-weaker}
use Rattle.toml.specs.View.{table_view}
use Rattle.stub_file.specs.Entries.{OrMemory}
use Rattle.stub_file.specs.Faults.{HasFault}
use Rattle.stub_file.specs.Stubs.{Refuses}
use Rattle.stub_file.proofs.Top.{refuses}
use Rattle.stub_file.proofs.read.read_stubs.Goals as goal

pub returns-in-Ok-clause-refused : goal.returns-in-Ok-clause-refused
returns-in-Ok-clause-refused c =
    IfErr-weaker c.read_document.result (OrMemory (HasFault (table_view c.in-Ok.table))) (Refuses c.args.bytes.now)
    (λ fault h. refuses c.args.bytes.now (table_view c.in-Ok.table) c.in-Ok.ensures.ok fault h) c.read_document.ensures.fault
