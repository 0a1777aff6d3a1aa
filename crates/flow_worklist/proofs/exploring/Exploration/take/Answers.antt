-- Where nothing is kept, the location has no row.
use Rattle.std.proofs.Common.{Option, sym, subst}
use Rattle.domain_laws.specs.Made.{values_of}
use Rattle.flow_worklist.specs.declared.visits.Visits.{Visits}
use Rattle.flow_worklist.specs.Exploring.{IsKept}
use Rattle.flow_worklist.proofs.Indexing.{is_new}
use Rattle.flow_worklist.proofs.exploring.Exploration.take.Goals as goal

pub returns-in-None-clause-taken : goal.returns-in-None-clause-taken
returns-in-None-clause-taken g c =
    let d = values_of g.D.Domain g.D.PartialEq.eq in
    let rows = c.args.self.now.rows.items in
    let P : Option (Visits g.row.D.Denot) → Type 0 = λ o. IsKept d o c.args.at rows in
    is_new d c.new.result c.args.at rows c.new.ensures.numbers c.new.ensures.seen c.new.ensures.index (subst P (sym c.in-None.ensures.value) (c.requires.kept c.args.at))
