use Rattle.partitioned_memory.proofs.Spread.{spread-apart}
use Rattle.partitioned_memory.proofs.laws.spread_is_apart.Goals as goal

pub returns : goal.returns
returns c = spread-apart
