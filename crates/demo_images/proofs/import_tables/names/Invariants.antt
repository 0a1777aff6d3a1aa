use Rattle.std.proofs.Common.{◌≡◌, ◌+◌, ◌*◌, ◌≤◌, take, length}
use Rattle.demo_images.specs.Tables.{names}
use Rattle.demo_images.proofs.import_tables.names.Given as goal

abbrev pub invariant-loop-import : goal.invariant-loop-import
invariant-loop-import l = (l.out.items ≡ names (take l.import-index l.imports)) × (length l.out.items ≤ 1 + 4097 * l.import-index)
