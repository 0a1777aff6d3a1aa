use Rattle.std.proofs.Common.{◌≡◌, ◌++◌, take}
use Rattle.demo_images.specs.LittleEndian.{halves}
use Rattle.demo_images.proofs.little_endian.push_halves.Given as goal

abbrev pub invariant-loop-n : goal.invariant-loop-n
invariant-loop-n l = l.out.items ≡ l.fn.out.items ++ halves (take l.n-index l.list)
