use Rattle.std.proofs.Common.{rules}
use Rattle.domain_laws.specs.Made.{values_of}
use Rattle.abstract_state.proofs.Storing.{in-done, in-stopped}
use Rattle.abstract_state.proofs.path.Path.store_in.Goals as goal

pub returns-in_ok-write_region : goal.returns-in_ok-write_region
returns-in_ok-write_region g c =
    in-done (values_of g.D.Domain g.D.PartialEq.eq) c.args.region c.args.low c.args.high c.args.w c.args.v c.args.self.now _ (search rules) (search rules)

pub returns-else-lies_in_region : goal.returns-else-lies_in_region
returns-else-lies_in_region g c =
    in-stopped (values_of g.D.Domain g.D.PartialEq.eq) c.args.region c.args.low c.args.high c.args.w c.args.v c.args.self.now c.cause_outside.result (search rules) (search rules)
