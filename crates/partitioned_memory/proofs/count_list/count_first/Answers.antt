use Rattle.std.proofs.Common.{rules}
use Rattle.partitioned_memory.specs.Held.{count_before, one_block}
use Rattle.partitioned_memory.proofs.ListLaws.{placed-from}
use Rattle.partitioned_memory.proofs.count_list.count_first.Goals as goal

pub returns : goal.returns
returns c = placed-from count_before (one_block c.args.region) c.in_ok-all.all.items c.insert.new.self.items c.args.blocks.now c.place_of_count-at.result c.in_ok-all.ensures.items (search rules) c.in_ok-insert.ensures.items
