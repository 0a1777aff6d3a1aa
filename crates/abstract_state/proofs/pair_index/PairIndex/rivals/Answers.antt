use Rattle.std.proofs.Common.{◌∙◌, ap, count_by}
use Rattle.std.specs.Prelude.{unwrap_or}
use Rattle.domain_laws.specs.Made.{values_of}
use Rattle.abstract_state.specs.Widening.{is_rival}
use Rattle.abstract_state.proofs.Seeing.{counted-at}
use Rattle.abstract_state.proofs.pair_index.PairIndex.rivals.Goals as goal

pub returns-in-Some : goal.returns-in-Some
returns-in-Some g c =
    let d = values_of g.D.Domain g.D.PartialEq.eq in
    ap (λ o. unwrap_or o 0) c.in-Some.ensures.value
    ∙ counted-at d c.self.inside.pairs.keys c.self.inside.counts c.args.holder c.args.rank c.self.invariant
    ∙ ap (count_by (is_rival d c.args.holder c.args.rank)) c.self.view_is

pub returns-in-None : goal.returns-in-None
returns-in-None g c =
    let d = values_of g.D.Domain g.D.PartialEq.eq in
    ap (λ o. unwrap_or o 0) c.in-None.ensures.value
    ∙ counted-at d c.self.inside.pairs.keys c.self.inside.counts c.args.holder c.args.rank c.self.invariant
    ∙ ap (count_by (is_rival d c.args.holder c.args.rank)) c.self.view_is
