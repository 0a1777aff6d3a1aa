use Rattle.std.proofs.Common.{◌≡◌, drop, fold}
use Rattle.domain_laws.specs.Made.{values_of}
use Rattle.abstract_state.specs.Widening.{with_widened_fact}
use Rattle.abstract_state.proofs.widening.put_all.Given as goal

abbrev pub invariant-loop-f : goal.invariant-loop-f
invariant-loop-f g l =
    let step = with_widened_fact (values_of g.D.Domain g.D.PartialEq.eq) l.k l.seen in
    record {
      same : fold step l.parts (drop l.f-index l.facts) ≡ fold step l.initial.parts l.facts;
      blocks : l.parts.blocks ≡ l.initial.parts.blocks;
    }
