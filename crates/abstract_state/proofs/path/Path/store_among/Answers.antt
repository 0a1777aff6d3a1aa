use Rattle.std.proofs.Common.{◌≡◌, ◌+◌, ◌^◌, ◌<◌, true, rules, arith}
use Rattle.domain_laws.specs.Made.{values_of}
use Rattle.memory_map.specs.Range.{maps_all}
use Rattle.abstract_state.proofs.Storing.{among-done, among-none, mapped-below}
use Rattle.abstract_state.proofs.path.Path.store_among.Goals as goal

pub writable_runs-requires : goal.writable_runs-requires
writable_runs-requires g c =
    let low : c.args.a < 2 ^ 32 = omega arith in
    let mapped : maps_all c.args.image.now.segments c.args.a c.args.size ≡ true = search rules in
    let below : c.args.a + c.args.size < 2 ^ 32 = mapped-below c.args.image.now c.args.a c.args.size c.segments.ensures.loaded low mapped in
    search rules

pub returns-then-is_empty : goal.returns-then-is_empty
returns-then-is_empty g c =
    among-none (values_of g.D.Domain g.D.PartialEq.eq) c.args.image.now c.args.a c.args.size c.args.self.now c.in_ok-runs.runs (search rules) (search rules) (search rules) (search rules)

pub returns : goal.returns
returns g c =
    among-done (values_of g.D.Domain g.D.PartialEq.eq) c.args.image.now c.args.a c.args.size c.args.self.now c.write_spans.new.self c.in_ok-runs.runs (search rules) (search rules) (search rules) (search rules) (search rules)
