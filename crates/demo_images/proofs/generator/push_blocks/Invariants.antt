use Rattle.std.proofs.Common.{◌≡◌, ◌+◌, ◌*◌, ◌++◌, length}
use Rattle.demo_images.specs.Demo.{blocks}
use Rattle.demo_images.proofs.generator.push_blocks.Given as goal

abbrev pub invariant-loop-i : goal.invariant-loop-i
invariant-loop-i l = (l.out.items ≡ l.fn.out.items ++ blocks l.i) × (length l.out.items ≡ length l.fn.out.items + 64 * l.i)
