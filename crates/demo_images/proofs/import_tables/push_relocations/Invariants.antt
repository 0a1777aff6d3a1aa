use Rattle.std.proofs.Common.{◌≡◌, ◌+◌, ◌*◌, ◌++◌, length}
use Rattle.demo_images.specs.Tables.{relocations}
use Rattle.demo_images.proofs.import_tables.push_relocations.Given as goal

abbrev pub invariant-loop-i : goal.invariant-loop-i
invariant-loop-i l = (l.out.items ≡ l.fn.out.items ++ relocations l.i) × (length l.out.items ≡ length l.fn.out.items + 8 * l.i)
