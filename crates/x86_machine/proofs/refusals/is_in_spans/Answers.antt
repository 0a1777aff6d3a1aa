use Rattle.std.proofs.Common.{◌∙◌, sym}
use Rattle.memory_map.specs.Spans.{is_in_span}
use Rattle.memory_map.proofs.Writing.{list_any-map}
use Rattle.import_semantics.specs.StubDoes.{span_of}
use Rattle.x86_machine.proofs.refusals.is_in_spans.Goals as goal

pub returns : goal.returns
returns c = c.is_in_one.ensures ∙ sym (list_any-map (is_in_span c.args.a) (span_of c.args.cells.now) c.args.stub.now.writes.items)
