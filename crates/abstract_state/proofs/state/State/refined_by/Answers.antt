use Rattle.std.proofs.Common.{List, sym, subst, rules}
use Rattle.domain_laws.specs.Made.{values_of}
use Rattle.abstract_state.specs.Notes.{compared_with}
use Rattle.partitioned_memory.specs.Well.{MayHold}
use Rattle.partitioned_memory.specs.Lists.{Every}
use Rattle.bit_words.specs.declared.width.Width.TheVariants.{B32}
use Rattle.abstract_state.proofs.Narrowing.{narrowed-some, number-well}
use Rattle.abstract_state.proofs.state.State.refined_by.Goals as goal

pub narrowed_states-requires-clause-values : goal.narrowed_states-requires-clause-values
narrowed_states-requires-clause-values g c κs within =
    let d = values_of g.D.Domain g.D.PartialEq.eq in
    let met = g.met.D.Domain g.world.𝓛 g.world.𝓜 g.world.𝓡 ((λ s x. x), (λ x. x), (λ x. x), λ x. x) in
    subst (λ (vs : List g.row.D.Denot). Every (MayHold d c.args.self.now.parts.blocks B32) vs) (sym c.deref.ensures.value)
    (narrowed-some d met.lawful c.args.self.now.parts.blocks c.args.k c.args.condition c.noted_value-v.result (compared_with c.args.note) c.compared_with.result c.in-Some.values.items (number-well c.args.note c.requires) c.noted_value-v.ensures.holds c.compared_with.ensures (search rules))
