use Rattle.std.proofs.Common.{◌∙◌, sym}
use Rattle.std.proofs.lemmas.List.Folds.{list_all-map}
use Rattle.import_semantics.specs.StubDoes.{may_write_span, span_of}
use Rattle.x86_machine.proofs.refusals.may_write_spans.Goals as goal

pub returns : goal.returns
returns c = c.may_write_each.ensures ∙ sym (list_all-map (may_write_span c.args.cells.now) (span_of c.args.cells.now) c.args.stub.now.writes.items)
