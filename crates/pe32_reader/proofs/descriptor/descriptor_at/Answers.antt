use Rattle.std.proofs.Common.{arith, map}
use Rattle.memory_map.specs.Map.{range_of}
use Rattle.pe32_reader.proofs.Found.{length-bytes_at}
use Rattle.pe32_reader.proofs.descriptor.descriptor_at.Goals as goal

pub descriptor_of-requires : goal.descriptor_of-requires
descriptor_of-requires c = length-bytes_at (map range_of c.args.segments.now) c.args.at 20 c.in-Some.bytes.now (λ e. omega arith) c.in-Some.ensures
