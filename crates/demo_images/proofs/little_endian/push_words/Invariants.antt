use Rattle.std.proofs.Common.{◌≡◌, ◌+◌, ◌*◌, ◌++◌, take, length}
use Rattle.demo_images.specs.LittleEndian.{words}
use Rattle.demo_images.proofs.little_endian.push_words.Given as goal

abbrev pub invariant-loop-n : goal.invariant-loop-n
invariant-loop-n l = (l.out.items ≡ l.fn.out.items ++ words (take l.n-index l.list)) × (length l.out.items ≡ length l.fn.out.items + 4 * l.n-index)
