use Rattle.std.proofs.Common.{◌∙◌, sym}
use Rattle.domain_laws.specs.Made.{values_of}
use Rattle.import_stubs.proofs.Replying.{no-return}
use Rattle.import_stubs.proofs.call.Call.return_with.Goals as goal

pub land-requires-clause-value : goal.land-requires-clause-value
land-requires-clause-value g c κs within = c.anything.ensures.holds _

pub land-requires-in-Number-clause-value : goal.land-requires-in-Number-clause-value
land-requires-in-Number-clause-value g c κs within = c.number.ensures.holds _

pub returns-in-Never : goal.returns-in-Never
returns-in-Never g c =
    let d = values_of g.D.Domain g.D.PartialEq.eq in
    c.ended.ensures ∙ sym (no-return d c.args.self.now.image.now c.args.self.now.offset c.args.top c.args.reply c.args.site c.args.s.now c.args.p c.in-Never.is)
