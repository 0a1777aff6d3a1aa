use Rattle.std.proofs.Common.{arith, map, ◌≡◌, length}
use Rattle.memory_map.specs.Map.{range_of}
use Rattle.pe32_reader.proofs.Found.{length-bytes_at}
use Rattle.image_loader.proofs.binding.word_in.Goals as goal

pub word_at-requires : goal.word_at-requires
word_at-requires c =
    let size : length c.in-Some.bytes.now ≡ 4 = length-bytes_at (map range_of c.args.segments.now) c.from.result 4 c.in-Some.bytes.now (λ e. omega arith) c.in-Some.ensures in
    omega arith
