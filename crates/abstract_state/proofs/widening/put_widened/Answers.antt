use Rattle.std.proofs.Common.{◌≡◌, sym, subst, rules}
use Rattle.domain_laws.specs.Made.{values_of}
use Rattle.partitioned_memory.specs.Well.{MayHold}
use Rattle.abstract_state.specs.Widening.{holder_of, widened_value}
use Rattle.abstract_state.proofs.Raising.{widened-holds}
use Rattle.abstract_state.proofs.widening.put_widened.Goals as goal

pub put_fact-requires-clause-value : goal.put_fact-requires-clause-value
put_fact-requires-clause-value g c κs within =
    let d = values_of g.D.Domain g.D.PartialEq.eq in
    let met = g.met.D.Domain g.world.𝓛 g.world.𝓜 g.world.𝓡 ((λ s x. x), (λ x. x), (λ x. x), λ x. x) in
    let same : c.widened-value.result ≡ widened_value d c.args.k c.args.seen.now (holder_of c.args.f.now) c.args.f.now.value = search rules in
    subst (λ (v : g.row.D.Denot). MayHold d c.args.parts.now.blocks c.args.f.now.w v) (sym same) (widened-holds d met.lawful c.args.k c.args.seen.now c.args.parts.now.blocks c.args.f.now.w (holder_of c.args.f.now) c.args.f.now.value c.requires)
