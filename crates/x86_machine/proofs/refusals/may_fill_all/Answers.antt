use Rattle.std.proofs.Common.{◌∙◌, sym}
use Rattle.std.specs.List.{enumerate_from}
use Rattle.memory_map.specs.declared.choice.Fill.{Fill}
use Rattle.import_semantics.specs.StubDoes.{may_fill}
use Rattle.x86_machine.proofs.Enumerated.{all_of_flat}
use Rattle.x86_machine.proofs.refusals.may_fill_all.Goals as goal

pub returns : goal.returns
returns c =
    c.may_fill_one_by_one.ensures
    ∙ sym (all_of_flat (may_fill c.args.stub.now c.args.choice.now c.args.cells.now) (λ (f : Fill). enumerate_from f.at f.bytes) c.args.choice.now.fill)
