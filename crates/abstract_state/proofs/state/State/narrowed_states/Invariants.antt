use Rattle.std.proofs.Common.{◌≡◌, ◌++◌, drop, map}
use Rattle.domain_laws.specs.Made.{values_of}
use Rattle.abstract_state.specs.Refining.{with_noted_value}
use Rattle.abstract_state.proofs.state.State.narrowed_states.Given as goal

abbrev pub invariant-loop-v : goal.invariant-loop-v
invariant-loop-v g l =
    l.all.items ++ map (with_noted_value (values_of g.D.Domain g.D.PartialEq.eq) l.note l.self) (drop l.v-index l.values) ≡ map (with_noted_value (values_of g.D.Domain g.D.PartialEq.eq) l.note l.self) l.values
