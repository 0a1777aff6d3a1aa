use Rattle.std.proofs.Common.{arith}
use Rattle.memory_map.proofs.bytes.Bytes.from_vec.Goals as goal

pub invariant_of-result : goal.invariant_of-result
invariant_of-result c = λ k d h. omega arith
