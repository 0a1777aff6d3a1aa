use Rattle.std.proofs.Common.{subst}
use Rattle.abstract_state.specs.Expanding.{Path}
use Rattle.transfer_functions.specs.Values.{MayWrite}
use Rattle.domain_laws.specs.Made.{values_of}
use Rattle.bit_words.specs.declared.width.Width.TheVariants.{B32}
use Rattle.transfer_functions.proofs.Holds.{convert-place, write-place}
use Rattle.transfer_functions.proofs.site.Site.convert.Goals as goal

pub written-requires-after_bounds : goal.written-requires-after_bounds
written-requires-after_bounds g c κs within =
    let d = values_of g.D.Domain g.D.PartialEq.eq in
    let blocks = c.p.inside.state.parts.blocks in
    subst (λ (q : Path g.row.D.Denot). MayWrite d q.state.parts.blocks c.args.to c.eval-r.result) c.p.view_is
    (write-place d blocks c.args.w c.args.to c.eval-r.result (convert-place c.args.op c.args.w c.args.to c.args.from c.args.by c.requires) (c.eval-r.ensures.holds blocks _ B32 c.in-Some.ensures.holds (c.number-second.ensures.word blocks)))
