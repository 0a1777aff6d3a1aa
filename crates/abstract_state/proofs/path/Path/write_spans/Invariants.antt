use Rattle.std.proofs.Common.{◌≡◌, drop}
use Rattle.abstract_state.specs.Accessing.{with_spans}
use Rattle.abstract_state.proofs.path.Path.write_spans.Given as goal

abbrev pub invariant-loop-s : goal.invariant-loop-s
invariant-loop-s g l = with_spans (drop l.s-index l.spans) l.self ≡ with_spans l.spans l.initial.self
