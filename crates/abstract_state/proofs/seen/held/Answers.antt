-- The pairs of the registers, and then those of the facts that were copied.
use Rattle.std.proofs.Common.{List, ◌++◌, map, ◌∙◌, ap}
use Rattle.partitioned_memory.specs.declared.fact.Fact.{Fact}
use Rattle.abstract_state.specs.declared.seen.Holder.{Holder}
use Rattle.abstract_state.specs.State.{Known}
use Rattle.abstract_state.specs.Widening.{held_registers, holder_of}
use Rattle.abstract_state.proofs.seen.held.Goals as goal

pub returns : goal.returns
returns g c =
    let of_facts : List (Fact g.row.D.Denot) → List (Holder × g.row.D.Denot) = map (λ f. (holder_of f, f.value)) in
    c.in_ok-push_facts.ensures
    ∙ ap (λ pairs. pairs ++ of_facts c.deref.result.now) c.in_ok-pairs.ensures
    ∙ ap (λ facts. held_registers c.args.s.now ++ of_facts facts) (c.deref.ensures.value ∙ c.in_ok-facts.ensures.facts ∙ ap (λ (s : Known g.row.D.Denot). s.parts.facts) c.s.view_is)
