-- The location put back is as it should be, and the others are as they were.
use Rattle.std.specs.Prelude.{nat_eq}
use Rattle.std.specs.HashMap.{get}
use Rattle.domain_laws.specs.Made.{values_of}
use Rattle.flow_worklist.proofs.Indexing.{kept_put}
use Rattle.flow_worklist.proofs.exploring.Exploration.put.Goals as goal

pub returns-clause-indexed : goal.returns-clause-indexed
returns-clause-indexed g c =
    let d = values_of g.D.Domain g.D.PartialEq.eq in
    let before = c.args.self.now in
    let after = c.insert.new.self in
    record {
      kept = λ q. kept_put d c.args.at q c.args.visits (get nat_eq before.visits q) (get nat_eq after q) before.rows.items
          (c.in_ok-insert.ensures.updates.0 q) c.requires.taken (c.requires.others.kept q);
    }
