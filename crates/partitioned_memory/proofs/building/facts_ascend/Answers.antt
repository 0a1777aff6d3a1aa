use Rattle.std.proofs.Common.{rules}
use Rattle.std.proofs.lemmas.Fn.{always_returns_same}
use Rattle.partitioned_memory.specs.Held.{fact_before}
use Rattle.memory_map.proofs.Ascending.{sorted}
use Rattle.partitioned_memory.proofs.building.facts_ascend.Goals as goal

pub returns : goal.returns
returns g c = sorted fact_before _ _ (c.is_sorted_by.ensures.cases fact_before (always_returns_same _ _ _ (λ a r f k. search rules)))
