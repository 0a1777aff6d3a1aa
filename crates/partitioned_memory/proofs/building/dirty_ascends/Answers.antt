use Rattle.std.proofs.Common.{rules}
use Rattle.std.proofs.lemmas.Fn.{always_returns_same}
use Rattle.partitioned_memory.specs.Held.{dirty_before}
use Rattle.memory_map.proofs.Ascending.{sorted}
use Rattle.partitioned_memory.proofs.building.dirty_ascends.Goals as goal

pub returns : goal.returns
returns c = sorted dirty_before _ _ (c.is_sorted_by.ensures.cases dirty_before (always_returns_same _ _ _ (λ a r f k. search rules)))
