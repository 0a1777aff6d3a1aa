use Rattle.domain_laws.specs.Made.{values_of}
use Rattle.std.proofs.Common.{map}
use Rattle.partitioned_memory.specs.Held.{covers_fact, fact_at}
use Rattle.partitioned_memory.specs.Leaves.{pairs_in}
use Rattle.partitioned_memory.proofs.Cuts.{all-of-leaves}
use Rattle.partitioned_memory.proofs.fact_list.cover_facts.Goals as goal

pub returns : goal.returns
returns g c =
    let t = covers_fact (values_of g.D.Domain g.D.PartialEq.eq) (map fact_at c.args.others.now) in
    all-of-leaves (λ leaf. pairs_in leaf) fact_at t c.leaves.result.now c.args.facts.now c.cover_leaves.result c.cover_leaves.ensures c.leaves.ensures
