use Rattle.std.proofs.Common.{◌∙◌, ap}
use Rattle.std.specs.List.{list_any}
use Rattle.domain_laws.specs.Made.{values_of}
use Rattle.abstract_state.specs.Widening.{is_pair}
use Rattle.abstract_state.proofs.Seeing.{pair-found}
use Rattle.abstract_state.proofs.pair_index.PairIndex.has.Goals as goal

pub returns : goal.returns
returns g c =
    let d = values_of g.D.Domain g.D.PartialEq.eq in
    let met = g.met.D.Domain g.world.𝓛 g.world.𝓜 g.world.𝓡 ((λ s x. x), (λ x. x), (λ x. x), λ x. x) in
    c.contains.ensures ∙ pair-found d met.lawful c.args.holder c.args.value c.self.inside.pairs.keys ∙ ap (list_any (is_pair d c.args.holder c.args.value)) c.self.view_is
